-- What is left to take gives the whole.
use mathlib.Core.Path.{◌≡◌}
use Prim.Native.Nat.{◌-◌, ◌≤◌}
use lib.ListN.{length, drop}
use lib.Seq.{sets}
use Rattle.state_parts.specs.Within.{Within}
use Rattle.state_byte.specs.Walk.{walked}
use Rattle.state_block.specs.Layout.{decoded, encoded}
use Rattle.call_block.specs.Going.{walk_at, walk}
use Rattle.call_block.proofs.take_while_room.Given as goal

abbrev pub invariant-loop-going : goal.invariant-loop-going
invariant-loop-going l =
    (length l.state ≡ length l.initial.state)
    × (length l.answers ≡ length l.initial.answers)
    × (l.going.taken ≤ length l.bytes)
    × (l.going.written ≤ length l.answers)
    × Within (decoded l.state) l.memory
    × (l.state ≡ sets l.initial.state 0 (encoded (decoded l.state)))
    × (walk l.initial.state l.bytes l.initial.memory l.initial.answers ≡ walked (walk_at l.going.taken l.going.written l.state l.memory l.answers) (drop l.going.taken l.bytes))

abbrev pub decreases-loop-going : goal.decreases-loop-going
decreases-loop-going l = length l.bytes - l.going.taken
