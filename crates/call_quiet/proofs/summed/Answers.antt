-- What is left to add gives the whole.
use mathlib.Core.Path.{◌≡◌, refl}
use native.Mathlib.Omega.{arith}
use lib.ListN.{drop, drop_of_length-le}
use Rattle.document.specs.Sum.{total}
use Rattle.line_wire.proofs.Stuffed.{total_drop}
use Rattle.call_quiet.proofs.summed.Goals as goal

pub loop-byte-init : goal.loop-byte-init
loop-byte-init c = (omega arith, refl)

pub loop-byte-preserved : goal.loop-byte-preserved
loop-byte-preserved c =
    let l = c.loop-byte in
    (omega arith, omega (arith, l.invariant.1, c.added-so_far.ensures, total_drop c.args.bytes.now l.byte-index c.loop-byte-test.true))

pub returns : goal.returns
returns c =
    let l = c.loop-byte in
    let none : total (drop l.byte-index c.args.bytes.now) ≡ 0 = rw (drop_of_length-le c.args.bytes.now c.loop-byte-test.false) refl in
    omega (arith, l.invariant.0, l.invariant.1, none)
