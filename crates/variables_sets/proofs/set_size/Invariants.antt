-- The sum so far and the sizes still to come make the whole.
use mathlib.Core.Bool.{true}
use mathlib.Core.Path.{◌≡◌}
use Prim.Native.Nat.{◌+◌, ◌-◌, ◌*◌, ◌≤◌}
use lib.ListN.{drop}
use Rattle.document.specs.Variables.{definitions_in, set_size}
use Rattle.variables_sets.proofs.set_size.Given as goal

abbrev pub invariant-loop-k : goal.invariant-loop-k
invariant-loop-k l =
    (l.size ≤ 255 * l.k)
    × (l.size + set_size (definitions_in true (l.count - l.k) (drop (l.from + l.k * 5) l.block)) ≡ set_size (definitions_in true l.count (drop l.from l.block)))
