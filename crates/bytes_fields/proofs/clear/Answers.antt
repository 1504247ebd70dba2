-- The part that was filled is a store of so many zeros.
use mathlib.Core.Path.{◌≡◌}
use Prim.Native.Nat.{◌+◌, ◌-◌}
use native.Mathlib.Omega.{arith}
use lib.ListN.{length-replicate, replicate}
use Rattle.bytes_fields.proofs.Ranges.{bytes_length, part_stored}
use Rattle.bytes_fields.proofs.clear.Goals as goal

pub returns : goal.returns
returns c =
    let a = c.args in
    let k : (a.from + a.n) - a.from ≡ a.n = omega arith in
    let zeros = rw (k, bytes_length a.block.now a.from a.n c.requires) at c.fill.ensures.after (λ y e. e) in
    rw (k, zeros) (part_stored (replicate a.n 0) a.block.now a.from a.n (length-replicate a.n 0) c.requires)
