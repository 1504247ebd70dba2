-- Refused, nothing changes; else the recorder is prepared.
use mathlib.Core.Path.{sym, ◌∙◌}
use Rattle.codes_table.specs.Calls.{refusal_number}
use Rattle.codes_table.proofs.Refusals.{refusal_some}
use Rattle.call_checks.proofs.Settled.{panel_known}
use Rattle.call_panel.proofs.Calls.{prepare_refused, prepare_taken}
use Rattle.call_panel.proofs.prepare.Goals as goal

pub prepare_within-requires : goal.prepare_within-requires
prepare_within-requires c = (panel_known c.args.state.now (sym c.in-Ok.ensures)).0

pub returns-in-Ok : goal.returns-in-Ok
returns-in-Ok c =
    let a = c.args in
    let block = a.state.now in
    let fine = sym c.in-Ok.ensures in
    prepare_taken block fine (panel_known block fine).0 (λ i. (c.slice_known-1.given i).fits) c.outcome_number.result _ a.setup.now
    (c.outcome_number.ensures ∙ c.prepare_within.ensures.said) c.prepare_within.ensures.state

pub returns-in-Err : goal.returns-in-Err
returns-in-Err c =
    rw c.from.ensures (prepare_refused c.args.state.now (refusal_number c.in-Err.refusal) c.in-Err.ensures (refusal_some c.in-Err.refusal) c.args.setup.now)
