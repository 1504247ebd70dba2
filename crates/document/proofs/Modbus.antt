-- The rows for the second port hold of the definitions.
use mathlib.Core.Path.{◌≡◌, refl}
use mathlib.Core.List.{List, ◌++◌, map}
use Rattle.document.specs.Message.{heard, finished_by}
use Rattle.document.specs.Answer.{answer_on_wire}
use Rattle.document.specs.Services.{service_of}
use Rattle.document.specs.Permission.{may_be_written}
use Rattle.document.specs.Refusals.{refusal}
use Rattle.document.specs.Commands.{answered}
use Rattle.document.specs.Asides.{beside}
use Rattle.document.specs.CheckSum.{shifted, shifts, stepped, check_sum}
use Rattle.document.specs.Frames.{is_silenced}
use Rattle.document.specs.Modbus.{exception_to, modbus_answer, modbus_memory}
use Rattle.document.specs.CallRows.{Line}
use Rattle.document.specs.ModbusRows.{check_sum_rows, field_rows, silence_rows, function_rows, many_rows, address_rows, length_rows, order_rows, refusal_rows, both_ports_rows}
use Rattle.document.proofs.Rows.{lists_eq}

abbrev pub modbus_rows : List Line
unfolding check_sum_rows field_rows silence_rows function_rows many_rows address_rows length_rows order_rows refusal_rows both_ports_rows
modbus_rows =
    check_sum_rows ++ field_rows ++ silence_rows ++ function_rows ++ many_rows ++ address_rows ++ length_rows ++ order_rows ++ refusal_rows ++ both_ports_rows

pub modbus_holds : map (λ (l : Line). l.gives) modbus_rows ≡ map (λ (l : Line). l.says) modbus_rows
unfolding check_sum_rows field_rows silence_rows function_rows many_rows address_rows length_rows order_rows refusal_rows both_ports_rows answer_on_wire heard finished_by service_of refusal answered beside may_be_written shifted shifts stepped check_sum is_silenced exception_to modbus_answer modbus_memory
modbus_holds = lists_eq (map (λ (l : Line). l.gives) modbus_rows) (map (λ (l : Line). l.says) modbus_rows) refl
