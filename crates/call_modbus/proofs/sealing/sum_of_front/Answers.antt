-- The part that is lent is the front.
use mathlib.Core.Path.{sym}
use lib.Seq.{length-take-le}
use Rattle.call_modbus.proofs.sealing.sum_of_front.Goals as goal

pub slice_bounds-check_sum-end : goal.slice_bounds-check_sum-end
slice_bounds-check_sum-end c =
    sym (length-take-le c.args.front c.args.out.now c.requires)
