-- The shift loses no bit.
use mathlib.Core.Path.{◌∙◌}
use Prim.Native.Nat.{◌*◌, ◌^◌}
use native.Mathlib.Nat.{one-mul}
use lib.Dec.{lit<}
use lib.Pow.{shl_exact}
use native.Mathlib.Omega.{arith}
use Rattle.recorder_plans.proofs.bounds.too_large.Goals as goal

pub returns : goal.returns
returns c = shl_exact 1 (8 * c.args.size) 64 (lit< tt) (omega arith) ∙ one-mul (2 ^ (8 * c.args.size))
