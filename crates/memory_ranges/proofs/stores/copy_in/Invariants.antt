-- What is left to store gives the whole: one byte a turn.
use mathlib.Core.Path.{◌≡◌}
use Prim.Native.Nat.{◌+◌}
use lib.ListN.{length, drop}
use Rattle.document.specs.Stores.{stored}
use Rattle.memory_ranges.proofs.stores.copy_in.Given as goal

abbrev pub invariant-loop-i : goal.invariant-loop-i
invariant-loop-i l = (length l.memory ≡ length l.initial.memory) × (stored l.memory (l.at + l.i) (drop l.i l.bytes) ≡ stored l.initial.memory l.at l.bytes)
