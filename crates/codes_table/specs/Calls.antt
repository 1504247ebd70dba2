-- The number with which a call refuses, and the number of what a call comes to.
use Rattle.std.specs.Prelude.{⊤, ℕ}
use Rattle.std.specs.declared.result.Result.{Result}
use Rattle.std.specs.declared.result.Result.TheVariants.{Ok, Err}
use Rattle.document.specs.Numbers.{taken, state_refused, memory_refused, room_refused, form_refused, expected_refused, sum_refused, result_refused, list_refused, station_refused}
use Rattle.codes_table.specs.declared.calls.Refusal.{Refusal}
use Rattle.codes_table.specs.declared.calls.Refusal.TheVariants.{State, Memory, Room, Form, Expected, Sum, Report, List, Station}

abbrev pub refusal_number : Refusal → ℕ
refusal_number State = state_refused
refusal_number Memory = memory_refused
refusal_number Room = room_refused
refusal_number Form = form_refused
refusal_number Expected = expected_refused
refusal_number Sum = sum_refused
refusal_number Report = result_refused
refusal_number List = list_refused
refusal_number Station = station_refused

abbrev pub taken_number : Result ⊤ Refusal → ℕ
taken_number (Ok _) = taken
taken_number (Err refusal) = refusal_number refusal
