-- Refused, nothing changes; else the block is gone through.
use mathlib.Core.Path.{sym, ◌∙◌}
use Rattle.codes_table.proofs.Refusals.{refusal_some}
use Rattle.call_checks.proofs.Lent.{lent_known}
use Rattle.call_block.proofs.Promised.{block_refused, block_taken}
use Rattle.call_block.proofs.block.Goals as goal

pub take_while_room-going-requires : goal.take_while_room-going-requires
take_while_room-going-requires c =
    let a = c.args in
    let known =
    lent_known a.state.now a.memory.now a.answers.now
    (λ i. (c.slice_known-1.given i).fits)
    (λ i. (c.slice_known-2-1.given i).fits)
    (sym c.in-Ok.ensures) in
    (known.0, known.1)

pub returns-in-Ok : goal.returns-in-Ok
returns-in-Ok c =
    let a = c.args in
    block_taken a.state.now a.bytes.now a.memory.now a.answers.now (sym c.in-Ok.ensures) c.take_while_room-going.result _ _ _ c.take_while_room-going.ensures

pub returns-in-Err : goal.returns-in-Err
returns-in-Err c =
    let a = c.args in
    block_refused a.state.now a.bytes.now a.memory.now a.answers.now c.from.result (c.from.ensures ∙ c.in-Err.ensures)
    (λ e. refusal_some c.in-Err.refusal (sym c.from.ensures ∙ e))
