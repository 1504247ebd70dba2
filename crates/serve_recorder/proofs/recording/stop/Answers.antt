-- The recorder says its status, and its run is stored as it is then.
use mathlib.Core.Path.{refl, ap, ◌∙◌}
use lib.Seq.{sets}
use Rattle.std.proofs.lemmas.Result.{err_from_is_err_and}
use Rattle.document.specs.declared.Operation.TheVariants.{Stop}
use Rattle.recorder_state.specs.declared.state.Recorder.{Recorder}
use Rattle.recorder_state.specs.State.{recorder_of}
use Rattle.recorder_state.specs.Calls.{stop_status, halted_state}
use Rattle.state_parts.specs.State.{gate_of, with_recorder}
use Rattle.state_block.specs.Places.{scope_place, run_place}
use Rattle.state_block.specs.Layout.{decoded_recorder, decoded_instruments, encoded_run, encoded_instruments}
use Rattle.state_block.proofs.Stored.{run_stored}
use Rattle.serve_recorder.specs.Operates.{status_alone}
use Rattle.serve_recorder.proofs.Statuses.{recorder_stopped_lem}
use Rattle.serve_recorder.proofs.Changing.{settles, stop_refused, halted_run_lem}
use Rattle.serve_recorder.proofs.recording.stop.Goals as goal

pub returns-in_err-stop : goal.returns-in_err-stop
returns-in_err-stop c =
    let block = c.args.state.now in
    let refused = err_from_is_err_and c.from_residual.result c.from_residual.ensures.1 in
    let status = c.in_err-stop.ensures.status ∙ ap (λ (q : Recorder). stop_status (recorder_of q)) c.recorder_in-recorder.ensures in
    λ memory s body.
    rw (refused.1, refused.2)
    (settles Stop refl block memory s body _ _
    (ap status_alone status ∙ recorder_stopped_lem (gate_of (decoded_instruments block) memory) s body)
    (stop_refused block c.requires (λ i. (c.slice_known-1.given i).fits) c.in_err-stop.field-0.0 status))

pub returns : goal.returns
returns c =
    let block = c.args.state.now in
    let is = c.recorder_in-recorder.ensures in
    let status = c.in_ok-stop.ensures.status ∙ ap (λ (q : Recorder). stop_status (recorder_of q)) is in
    let next = c.in_ok-stop.ensures.next ∙ ap halted_state is in
    let stored =
    c.put_run.ensures
    ∙ (λ i. sets block run_place (encoded_run (next i).run))
    ∙ run_stored block c.requires (λ i. (c.slice_known-1.given i).fits) (halted_state (decoded_recorder block)).run
    ∙ (λ i. sets block scope_place (encoded_instruments (with_recorder (decoded_instruments block) (halted_run_lem (decoded_recorder block) i)))) in
    λ memory s body.
    settles Stop refl block memory s body 0 _
    (ap status_alone status ∙ recorder_stopped_lem (gate_of (decoded_instruments block) memory) s body) stored
