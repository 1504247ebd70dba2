-- Whether all behind the ones passed are within is whether all are; the sum so far and the sizes to come make the whole.
use mathlib.Core.Bool.{true}
use mathlib.Core.Path.{◌≡◌}
use Prim.Native.Nat.{◌+◌, ◌-◌, ◌*◌, ◌≤◌}
use lib.ListN.{drop}
use Rattle.document.specs.Variables.{definitions_in, set_size}
use Rattle.state_bounds.specs.Measured.{are_within}
use Rattle.state_bounds.proofs.measure.Given as goal

abbrev pub invariant-loop-k : goal.invariant-loop-k
invariant-loop-k l =
    (l.sum ≤ 255 * l.k)
    × (are_within l.limit (definitions_in true (l.count - l.k) (drop (l.from + l.k * 5) l.block)) ≡ are_within l.limit (definitions_in true l.count (drop l.from l.block)))
    × (l.sum + set_size (definitions_in true (l.count - l.k) (drop (l.from + l.k * 5) l.block)) ≡ set_size (definitions_in true l.count (drop l.from l.block)))
