-- Refused, nothing changes; else the recorder starts.
use mathlib.Core.Path.{sym, ◌∙◌}
use Rattle.codes_table.specs.Calls.{refusal_number}
use Rattle.codes_table.proofs.Refusals.{refusal_some}
use Rattle.call_checks.proofs.Settled.{panel_known}
use Rattle.call_panel.proofs.Calls.{start_refused, start_taken}
use Rattle.call_panel.proofs.start.Goals as goal

pub start-requires : goal.start-requires
start-requires c = (panel_known c.args.state.now (sym c.in-Ok.ensures)).0

pub returns-in-Ok : goal.returns-in-Ok
returns-in-Ok c =
    let block = c.args.state.now in
    start_taken block (sym c.in-Ok.ensures) (panel_known block (sym c.in-Ok.ensures)).0 (λ i. (c.slice_known-1.given i).fits) c.outcome_number.result _
    (rw c.outcome_number.ensures c.start.ensures)

pub returns-in-Err : goal.returns-in-Err
returns-in-Err c =
    rw c.from.ensures (start_refused c.args.state.now (refusal_number c.in-Err.refusal) c.in-Err.ensures (refusal_some c.in-Err.refusal))
