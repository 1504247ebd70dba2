-- What is left to store gives the whole.
use mathlib.Core.Path.{◌≡◌}
use Prim.Native.Nat.{◌+◌, ◌-◌, ◌*◌, ◌≤◌}
use lib.ListN.{length, drop}
use lib.Seq.{sets}
use Rattle.document.specs.Variables.{definition_width, definitions_in}
use Rattle.state_block.specs.Layout.{encoded_definitions}
use Rattle.state_setups.proofs.parts.store_definitions.Given as goal

abbrev pub invariant-loop-k : goal.invariant-loop-k
invariant-loop-k l =
    (length l.block ≡ length l.initial.block)
    × (l.read + (l.n - l.k) * definition_width l.ex ≤ length l.part)
    × (sets l.block (l.at + l.k * 5) (encoded_definitions (definitions_in l.ex (l.n - l.k) (drop l.read l.part))) ≡ sets l.initial.block l.at (encoded_definitions (definitions_in l.ex l.n (drop 1 l.part))))
