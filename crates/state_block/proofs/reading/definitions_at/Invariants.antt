-- What is left to read gives the whole.
use mathlib.Core.Bool.{true}
use mathlib.Core.Path.{◌≡◌}
use Prim.Native.Nat.{◌+◌, ◌-◌, ◌*◌}
use lib.Seq.{sets}
use lib.ListN.{length, drop}
use Rattle.document.specs.Variables.{definitions_in}
use Rattle.state_block.specs.Layout.{decoded_definitions}
use Rattle.state_block.proofs.reading.definitions_at.Given as goal

abbrev pub invariant-loop-k : goal.invariant-loop-k
invariant-loop-k l = (length l.list ≡ 8) × (sets l.list l.k (definitions_in true (8 - l.k) (drop (l.from + l.k * 5) l.block)) ≡ decoded_definitions l.block l.from)
