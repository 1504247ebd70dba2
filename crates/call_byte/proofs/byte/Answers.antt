-- Refused, nothing changes; else the byte is taken.
use mathlib.Core.Path.{sym, ◌∙◌}
use Rattle.codes_table.proofs.Refusals.{refusal_some}
use Rattle.call_checks.proofs.Lent.{lent_known}
use Rattle.call_byte.proofs.Turns.{byte_refused, byte_taken}
use Rattle.call_byte.proofs.byte.Goals as goal

pub take-requires : goal.take-requires
take-requires c =
    let a = c.args in
    let known = lent_known a.state.now a.memory.now a.answer.now (λ i. (c.slice_known-1.given i).fits) (λ i. (c.slice_known-2-1.given i).fits) (sym c.in-Ok.ensures) in
    (known.0, known.1, known.2)

pub returns-in-Ok : goal.returns-in-Ok
returns-in-Ok c =
    let a = c.args in
    byte_taken a.state.now a.byte a.memory.now a.answer.now c.take.result _ _ _ (sym c.in-Ok.ensures) c.take.ensures

pub returns-in-Err : goal.returns-in-Err
returns-in-Err c =
    let a = c.args in
    byte_refused a.state.now a.byte a.memory.now a.answer.now c.from.result (c.from.ensures ∙ c.in-Err.ensures)
    (λ e. refusal_some c.in-Err.refusal (sym c.from.ensures ∙ e))
