-- What an operation changes of the gate: most change nothing.
use Rattle.std.specs.Prelude.{◌≡◌, Bool, true, false, List, ℕ}
use Rattle.document.specs.Numbers.{done}
use Rattle.document.specs.Stores.{stored, mask_stored}
use Rattle.document.specs.Scope as scope
use Rattle.document.specs.Recorder as recorder
use Rattle.document.specs.Fields.{size_field, address_field, data_field, mask_field}
use Rattle.document.specs.Application.Application.{waiting}
use Rattle.document.specs.Gate.{Gate, with_memory, with_scope, with_recorder, with_application}
use Rattle.document.specs.Permission.{may_be_written}
use Rattle.document.specs.Refusals.{first_of, scope_set_up_lines, recorder_set_up_lines, send_lines}
use Rattle.document.specs.declared.Operation.{Operation}
use Rattle.document.specs.declared.Operation.TheVariants.{Unserved, Describe, DescribeBriefly, Read, Write, WriteMasked, SetUpScope, ReadScope, PrepareAndStart, Start, Stop, Status, QueryBuffer, SendCommand, CommandResult, TellTable, MeasureString}
use Rattle.document.specs.declared.Service.{Service}

pub data Change : Type 0 where
  nothing : Change
  store : Change
  masked_store : Change
  scope_set_up : Change
  recorder_prepare_and_start : Change
  recorder_start : Change
  recorder_stop : Change
  command_sent : Change

abbrev pub change_of : Operation → Change
change_of Unserved = nothing
change_of Describe = nothing
change_of DescribeBriefly = nothing
change_of Read = nothing
change_of Write = store
change_of WriteMasked = masked_store
change_of SetUpScope = scope_set_up
change_of ReadScope = nothing
change_of PrepareAndStart = recorder_prepare_and_start
change_of Start = recorder_start
change_of Stop = recorder_stop
change_of Status = nothing
change_of QueryBuffer = nothing
change_of SendCommand = command_sent
change_of CommandResult = nothing
change_of TellTable = nothing
change_of MeasureString = nothing

-- the gate after it
abbrev pub changed : Change → Gate → Service → List ℕ → Gate
changed nothing g s body = g
changed store g s body = with_memory g (stored g.memory (address_field s body) (data_field s body))
changed masked_store g s body =
    with_memory g (mask_stored g.memory (address_field s body) (data_field s body) (mask_field s body))
changed scope_set_up g s body = with_scope g (scope.scope_set_up s.ex body)
changed recorder_prepare_and_start g s body = with_recorder g (recorder.recorder_started (recorder.recorder_prepared s.ex body))
changed recorder_start g s body = with_recorder g (recorder.recorder_started g.recorder)
changed recorder_stop g s body = with_recorder g (recorder.recorder_halted g.recorder)
changed command_sent g s body = with_application g (waiting body)

-- what is known where it is accepted
abbrev pub Accepted : Change → Gate → Service → List ℕ → Type 0
Accepted nothing g s body = Unit {0}
Accepted store g s body = may_be_written g (address_field s body) (size_field s body) ≡ true
Accepted masked_store g s body = may_be_written g (address_field s body) (size_field s body) ≡ true
Accepted scope_set_up g s body = first_of (scope_set_up_lines s.ex body) ≡ done
Accepted recorder_prepare_and_start g s body = first_of (recorder_set_up_lines g s.ex body) ≡ done
Accepted recorder_start g s body = recorder.recorder_absent g.recorder ≡ false
Accepted recorder_stop g s body = recorder.recorder_absent g.recorder ≡ false
Accepted command_sent g s body = first_of (send_lines g body) ≡ done

-- what is known where it is refused
abbrev pub Refused : Change → Gate → Service → List ℕ → Type 0
Refused nothing g s body = Unit {0}
Refused store g s body = Unit {0}
Refused masked_store g s body = Unit {0}
Refused scope_set_up g s body = first_of (scope_set_up_lines s.ex body) ≡ done → ⊥
Refused recorder_prepare_and_start g s body = first_of (recorder_set_up_lines g s.ex body) ≡ done → ⊥
Refused recorder_start g s body = recorder.recorder_absent g.recorder ≡ true
Refused recorder_stop g s body = recorder.recorder_absent g.recorder ≡ true
Refused command_sent g s body = first_of (send_lines g body) ≡ done → ⊥

-- whether it leaves the memory alone
abbrev pub leaves_memory : Change → Bool
leaves_memory nothing = true
leaves_memory store = false
leaves_memory masked_store = false
leaves_memory scope_set_up = true
leaves_memory recorder_prepare_and_start = true
leaves_memory recorder_start = true
leaves_memory recorder_stop = true
leaves_memory command_sent = true
