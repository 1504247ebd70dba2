-- The part that is copied is the front.
use mathlib.Core.Path.{sym}
use native.Mathlib.Omega.{arith}
use lib.Seq.{length-take-le}
use Rattle.modbus_functions.proofs.telling.tell_front.Goals as goal

pub slice_bounds-copy_in-end : goal.slice_bounds-copy_in-end
slice_bounds-copy_in-end c =
    sym (length-take-le c.args.front c.args.frame.now c.requires.0)

pub copy_in-requires : goal.copy_in-requires
copy_in-requires c =
    omega (arith, length-take-le c.args.front c.args.frame.now c.requires.0, c.requires.1)

pub returns : goal.returns
returns c =
    record { length = sym (length-take-le c.args.front c.args.frame.now c.requires.0); buffer = c.copy_in.ensures }
