-- Refused, nothing changes; else the recorder ticks.
use mathlib.Core.Path.{sym, ◌∙◌}
use Rattle.codes_table.proofs.Refusals.{refusal_some}
use Rattle.call_checks.proofs.Numbers.{tick_known}
use Rattle.call_checks.proofs.Settled.{block_known}
use Rattle.call_tick.proofs.Ticks.{tick_refused, tick_taken}
use Rattle.call_checks.specs.Promises.{block_sound}
use Rattle.call_tick.proofs.tick.Goals as goal

pub tick_within-requires : goal.tick_within-requires
tick_within-requires c =
    let args = c.args in
    let known = tick_known (block_sound args.state.now) args.memory.now (sym c.in-Ok.ensures) in
    let block = block_known args.state.now known.0 in
    (block.0, block.1, known.1)

pub returns-in-Ok : goal.returns-in-Ok
returns-in-Ok c =
    let args = c.args in
    tick_taken args.state.now args.memory.now _ _ (sym c.in-Ok.ensures) c.tick_within.ensures.state c.tick_within.ensures.memory_left

pub returns-in-Err : goal.returns-in-Err
returns-in-Err c =
    tick_refused c.args.state.now c.args.memory.now c.from.result (c.from.ensures ∙ c.in-Err.ensures) (λ e. refusal_some c.in-Err.refusal (sym c.from.ensures ∙ e))
