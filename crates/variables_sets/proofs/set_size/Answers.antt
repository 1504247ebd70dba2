-- The sum so far and the sizes still to come make the whole.
use mathlib.Core.Path.{◌≡◌, refl}
use Prim.Native.Nat.{◌+◌, ◌-◌, ◌*◌}
use native.Mathlib.Omega.{arith}
use Rattle.document.specs.Areas.{bytes_at}
use Rattle.document.specs.Values.{number}
use Rattle.variables_sets.proofs.Places.{size_first}
use Rattle.variables_sets.proofs.set_size.Goals as goal

pub loop-k-preserved : goal.loop-k-preserved
loop-k-preserved c =
    let a = c.args in
    let l = c.loop-k in
    let block = a.block.now in
    let next = a.from + l.k * 5 in
    let more = size_first block next (a.count - l.k) c.from-size.result (number (bytes_at block (next + 1) 4)) (omega arith) c.from-size.ensures refl in
    let left : a.count - (l.k + 1) ≡ a.count - l.k - 1 = omega arith in
    let behind : a.from + (l.k + 1) * 5 ≡ a.from + l.k * 5 + 5 = omega arith in
    (omega arith, rw (left, behind) (omega (arith, more, l.invariant.1)))

pub returns : goal.returns
returns c =
    let l = c.loop-k in
    let none : c.args.count - l.k ≡ 0 = omega arith in
    (omega (arith, rw none at l.invariant.1), omega arith)
