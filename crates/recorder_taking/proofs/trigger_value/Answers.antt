-- The trigger lies below the buffer, so within the memory.
use Prim.Native.Nat.{◌+◌}
use borrow.Author.Tests.{leb-true}
use Rattle.document.specs.Areas.{recorded_end}
use Rattle.recorder_plans.proofs.Granted.{plan_bounds}
use native.Mathlib.Omega.{arith}
use Rattle.recorder_taking.proofs.trigger_value.Goals as goal

pub number_at-requires : goal.number_at-requires
number_at-requires c =
    let t = (plan_bounds c.args.plan c.requires.0).trigger in (
      omega (arith, t.small, c.from.ensures),
      omega (
        arith,
        leb-true (c.args.plan.address + c.args.plan.size) recorded_end t.below,
        c.from.ensures,
        c.requires.1,
      ),
    )
