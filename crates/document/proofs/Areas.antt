-- The areas of the memory lie one behind the other, without a gap.
use mathlib.Core.Path.{◌≡◌, refl}
use Prim.Native.Nat.{◌≤◌}
use native.Mathlib.Omega.{arith}
use Rattle.document.specs.Areas.{variables_end, calibration_end, buffer_begin, memory_end}

pub areas_adjoin : (variables_end ≤ calibration_end) × (calibration_end ≡ buffer_begin) × (buffer_begin ≤ memory_end)
areas_adjoin = (omega arith, refl, omega arith)
