-- The further rows for the second port hold of the definitions.
use mathlib.Core.Path.{◌≡◌, refl}
use mathlib.Core.List.{List, ◌++◌, map}
use Rattle.document.specs.Permission.{may_be_written}
use Rattle.document.specs.CheckSum.{shifted, shifts, stepped, check_sum}
use Rattle.document.specs.Frames.{is_silenced}
use Rattle.document.specs.Modbus.{exception_to, modbus_answer, modbus_memory}
use Rattle.document.specs.CallRows.{Line}
use Rattle.document.proofs.Rows.{lists_eq}
use Rattle.document_worked.specs.ModbusRows.{check_sum_rows, silence_rows, long_rows, function_rows, exception_rows, end_rows, modbus_call_rows}

abbrev pub modbus_rows : List Line
unfolding check_sum_rows silence_rows long_rows function_rows exception_rows end_rows modbus_call_rows
modbus_rows = check_sum_rows ++ silence_rows ++ long_rows ++ function_rows ++ exception_rows ++ end_rows ++ modbus_call_rows

pub modbus_holds : map (λ (l : Line). l.gives) modbus_rows ≡ map (λ (l : Line). l.says) modbus_rows
unfolding check_sum_rows silence_rows long_rows function_rows exception_rows end_rows modbus_call_rows may_be_written shifted shifts stepped check_sum is_silenced exception_to modbus_answer modbus_memory
modbus_holds = lists_eq (map (λ (l : Line). l.gives) modbus_rows) (map (λ (l : Line). l.says) modbus_rows) refl
