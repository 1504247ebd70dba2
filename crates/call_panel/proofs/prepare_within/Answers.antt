-- Answered with an error, nothing changes; else the recorder is stored as it is then.
use mathlib.Core.Path.{sym, ◌∙◌}
use mathlib.Core.Bool.{false}
use borrow.Author.Tests.{eq-eqb, ne_eqb}
use Rattle.std.proofs.lemmas.Result.{err_from_is_err_and}
use Rattle.codes_table.proofs.Outcomes.{never_done}
use Rattle.document.specs.Numbers.{done}
use Rattle.document.specs.Recorder.{is_running}
use Rattle.recorder_state.specs.State.{recorder_of}
use Rattle.recorder_state.proofs.Answers.{taken-body}
use Rattle.state_block.specs.Layout.{decoded_recorder}
use Rattle.state_block.proofs.Stored.{same_instruments}
use Rattle.call_panel.specs.Promises.{given_status}
use Rattle.call_panel.proofs.Told.{given_taken}
use Rattle.call_panel.proofs.prepare_within.Goals as goal

pub returns-in_err-given_status : goal.returns-in_err-given_status
returns-in_err-given_status c =
    let l = c.args.state.now in
    let p = err_from_is_err_and c.from_residual.result c.from_residual.ensures.1 in
    let said = c.in_err-given_status.ensures in
    let refused = ne_eqb (given_status (recorder_of (decoded_recorder l)) c.args.setup.now) done (λ e. never_done c.in_err-given_status.field-0.0 (said ∙ e)) in
    record {
      said = rw (p.1, p.2) said;
      state = rw refused (sym (same_instruments l c.requires (λ i. (c.slice_known-1.given i).fits)));
    }

pub store_given-requires : goal.store_given-requires
store_given-requires c =
    let r = decoded_recorder c.args.state.now in
    (c.requires, taken-body (is_running (recorder_of r)) false c.args.setup.now (given_taken r c.args.setup.now (sym c.in_ok-given_status.ensures)))

pub returns : goal.returns
returns c =
    let l = c.args.state.now in
    record {
      said = c.in_ok-given_status.ensures;
      state = rw (eq-eqb (given_status (recorder_of (decoded_recorder l)) c.args.setup.now) done (sym c.in_ok-given_status.ensures)) c.store_given.ensures;
    }
