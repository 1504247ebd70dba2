-- No status of an `Err` says that it is done.
use mathlib.Core.Path.{◌≡◌}
use native.Mathlib.Omega.{arith}
use Rattle.document.specs.Numbers.{done}
use Rattle.codes_table.specs.declared.statuses.Status.{Status}
use Rattle.codes_table.specs.declared.statuses.Status.TheVariants.{RecorderRuns, RecorderStopped, NotServed, SumWrong, MessageTooLong, AnswerTooLong, LayoutWrong, SizeWrong, Busy, NotSetUp, RangeWrong}
use Rattle.codes_table.specs.Statuses.{status_number}

pub never_done : (status : Status) → status_number status ≡ done → ⊥
never_done RecorderRuns e = omega (arith, e)
never_done RecorderStopped e = omega (arith, e)
never_done NotServed e = omega (arith, e)
never_done SumWrong e = omega (arith, e)
never_done MessageTooLong e = omega (arith, e)
never_done AnswerTooLong e = omega (arith, e)
never_done LayoutWrong e = omega (arith, e)
never_done SizeWrong e = omega (arith, e)
never_done Busy e = omega (arith, e)
never_done NotSetUp e = omega (arith, e)
never_done RangeWrong e = omega (arith, e)
