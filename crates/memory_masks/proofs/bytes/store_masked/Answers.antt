-- What is left to store gives the whole: one byte a turn, until values or masks end.
use mathlib.Core.Path.{◌∙◌}
use native.Mathlib.Omega.{arith}
use Rattle.memory_masks.proofs.Turns.{mask_stored_ended}
use Rattle.memory_masks.proofs.bytes.store_masked.Goals as goal

pub returns : goal.returns
returns c =
    mask_stored_ended c.loop-i.memory c.args.values.now c.args.masks.now c.args.at c.loop-i.i (omega arith) ∙ c.loop-i.invariant.1
