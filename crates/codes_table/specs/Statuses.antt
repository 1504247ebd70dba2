-- The number of each status on the wire, and of what a command comes to.
use Rattle.std.specs.Prelude.{⊤, ℕ}
use Rattle.std.specs.declared.result.Result.{Result}
use Rattle.std.specs.declared.result.Result.TheVariants.{Ok, Err}
use Rattle.document.specs.Numbers.{done, recorder_runs, recorder_stopped, not_served, sum_wrong, message_too_long, answer_too_long, layout_wrong, size_wrong, busy, not_set_up, range_wrong}
use Rattle.codes_table.specs.declared.statuses.Status.{Status}
use Rattle.codes_table.specs.declared.statuses.Status.TheVariants.{RecorderRuns, RecorderStopped, NotServed, SumWrong, MessageTooLong, AnswerTooLong, LayoutWrong, SizeWrong, Busy, NotSetUp, RangeWrong}

abbrev pub status_number : Status → ℕ
status_number RecorderRuns = recorder_runs
status_number RecorderStopped = recorder_stopped
status_number NotServed = not_served
status_number SumWrong = sum_wrong
status_number MessageTooLong = message_too_long
status_number AnswerTooLong = answer_too_long
status_number LayoutWrong = layout_wrong
status_number SizeWrong = size_wrong
status_number Busy = busy
status_number NotSetUp = not_set_up
status_number RangeWrong = range_wrong

-- "A success not named otherwise is 0x00"
abbrev pub outcome_number : Result ⊤ Status → ℕ
outcome_number (Ok _) = done
outcome_number (Err status) = status_number status
