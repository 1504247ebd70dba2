-- What is left to store gives the whole: one byte a turn, until values or masks end.
use mathlib.Core.Path.{◌≡◌}
use Prim.Native.Nat.{◌+◌}
use lib.ListN.{length, drop}
use Rattle.document.specs.Stores.{mask_stored}
use Rattle.memory_masks.proofs.bytes.store_masked.Given as goal

abbrev pub invariant-loop-i : goal.invariant-loop-i
invariant-loop-i l =
    (length l.memory ≡ length l.initial.memory)
    × (mask_stored l.memory (l.at + l.i) (drop l.i l.values) (drop l.i l.masks) ≡ mask_stored l.initial.memory l.at l.values l.masks)
