-- The part that is lent on is the range.
use mathlib.Core.Path.{◌≡◌}
use Prim.Native.Nat.{◌+◌, ◌-◌}
use native.Mathlib.Omega.{arith}
use lib.Seq.{length-take-le}
use lib.ListN.{drop, length-drop}
use Rattle.memory_ranges.proofs.values.number_at.Goals as goal

pub returns : goal.returns
returns c =
    let a = c.args in
    let k : (a.address + a.size) - a.address ≡ a.size = omega arith in
    let n = c.number.ensures in
    record {
      value = rw k at n.value;
      fits = rw (k, length-take-le a.size (drop a.address a.memory.now) (rw length-drop (omega arith))) at n.fits;
    }
