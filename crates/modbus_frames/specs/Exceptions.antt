-- The number of each exception, and of what a frame is refused with, or 0 where it is not.
use Rattle.std.specs.Prelude.{⊤, ℕ}
use Rattle.std.specs.declared.result.Result.{Result}
use Rattle.std.specs.declared.result.Result.TheVariants.{Ok, Err}
use Rattle.document.specs.Numbers.{done}
use Rattle.modbus_frames.specs.declared.exceptions.Exception.{Exception}
use Rattle.modbus_frames.specs.declared.exceptions.Exception.TheVariants.{FunctionNotServed, AddressWrong, ValueWrong}

abbrev pub exception_number : Exception → ℕ
exception_number FunctionNotServed = 1
exception_number AddressWrong = 2
exception_number ValueWrong = 3

abbrev pub accepted_number : Result ⊤ Exception → ℕ
accepted_number (Ok _) = done
accepted_number (Err exception) = exception_number exception
