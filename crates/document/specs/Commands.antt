-- "Commands": what each operation does once nothing refuses it, and the answer to any message.
use Rattle.std.specs.Prelude.{Bool, cond, List, [], ◌∷◌, ◌++◌, ℕ, take, replicate, eqb}
use Rattle.document.specs.Numbers.{done, recorder_runs, recorder_stopped, not_served}
use Rattle.document.specs.Message.{Message}
use Rattle.document.specs.Areas.{bytes_at}
use Rattle.document.specs.Stores.{stored, mask_stored}
use Rattle.document.specs.Variables.{address_width}
use Rattle.document.specs.Scope.{scope_set_up, scope_read}
use Rattle.document.specs.Recorder.{is_running, recorder_prepared, recorder_started, recorder_halted, buffer_answer}
use Rattle.document.specs.Services.{service_of}
use Rattle.document.specs.Fields.{size_field, address_field, data_field, mask_field}
use Rattle.document.specs.Values.{number, little_endian}
use Rattle.document.specs.Strings.{string_length}
use Rattle.document.specs.Tables.{table_answer}
use Rattle.document.specs.Application.{result_byte}
use Rattle.document.specs.Application.Application.{waiting}
use Rattle.document.specs.Gate.{Gate, Outcome, says, with_memory, with_scope, with_recorder, with_application}
use Rattle.document.specs.Refusals.{Refusal, first_of, served_lines, refusal}
use Rattle.document.specs.declared.Operation.{Operation}
use Rattle.document.specs.declared.Operation.TheVariants.{Unserved, Describe, DescribeBriefly, Read, Write, WriteMasked, SetUpScope, ReadScope, PrepareAndStart, Start, Stop, Status, QueryBuffer, SendCommand, CommandResult, TellTable, MeasureString}
use Rattle.document.specs.declared.Service.{Service}

-- "03 00 01 01 00 40 00 10 01 40, then "LOG GATE" and 17 zeros (35 bytes)"
abbrev pub description : List ℕ
description =
    (0x03 ∷ 0x00 ∷ 0x01 ∷ 0x01 ∷ 0x00 ∷ 0x40 ∷ 0x00 ∷ 0x10 ∷ 0x01 ∷ 0x40 ∷ [])
    ++ (0x4C ∷ 0x4F ∷ 0x47 ∷ 0x20 ∷ 0x47 ∷ 0x41 ∷ 0x54 ∷ 0x45 ∷ [])
    ++ replicate 17 0

abbrev pub read_answer : Gate → Service → List ℕ → Outcome
read_answer g s body = says g done (bytes_at g.memory (address_field s body) (size_field s body))

-- "writes and setups return no data"
abbrev pub written : Gate → Service → List ℕ → Outcome
written g s body = says (with_memory g (stored g.memory (address_field s body) (data_field s body))) done []

abbrev pub written_masked : Gate → Service → List ℕ → Outcome
written_masked g s body =
    says (with_memory g (mask_stored g.memory (address_field s body) (data_field s body) (mask_field s body))) done []

-- "preparing" (2026-06)
abbrev pub prepare : Gate → Bool → List ℕ → Outcome
prepare g ex body = says (with_recorder g (recorder_prepared ex body)) done []

-- "and starting"; "0xC1: running answers 0x01, else starts, 0x00."
abbrev pub start : Gate → Outcome
start g = says (with_recorder g (recorder_started g.recorder)) (cond (is_running g.recorder) recorder_runs done) []

-- "Commands 0x09 and 0x0B become the two in a row"
abbrev pub prepare_and_start : Gate → Bool → List ℕ → Outcome
prepare_and_start g ex body = start (prepare g ex body).gate

-- "0xC2: stopped answers 0x02, else stops, 0x00."
abbrev pub stop : Gate → Outcome
stop g = says (with_recorder g (recorder_halted g.recorder)) (cond (is_running g.recorder) done recorder_stopped) []

-- "0xC3: 0x01 or 0x02."
abbrev pub status : Gate → Outcome
status g = says g (cond (is_running g.recorder) recorder_runs recorder_stopped) []

-- what an operation does, in the order of the list; one that is not served is never carried out
abbrev pub doing : Operation → Gate → Service → List ℕ → Outcome
doing Unserved g s body = says g not_served []
doing Describe g s body = says g done description
doing DescribeBriefly g s body = says g done (take 6 description)
doing Read g s body = read_answer g s body
doing Write g s body = written g s body
doing WriteMasked g s body = written_masked g s body
doing SetUpScope g s body = says (with_scope g (scope_set_up s.ex body)) done []
doing ReadScope g s body = says g done (scope_read g.scope g.memory)
doing PrepareAndStart g s body = prepare_and_start g s.ex body
doing Start g s body = start g
doing Stop g s body = stop g
doing Status g s body = status g
doing QueryBuffer g s body = says g done (buffer_answer (address_width s.ex) g.recorder)
doing SendCommand g s body = says (with_application g (waiting body)) done []
doing CommandResult g s body = says g done (result_byte g.application ∷ [])
doing TellTable g s body = says g done (table_answer g.tables (number body))
doing MeasureString g s body = says g done (little_endian 2 (string_length g.memory (number body)))

-- an outcome, unless one of these refuses
abbrev pub unless : Gate → List Refusal → Outcome → Outcome
unless g refusals outcome = cond (eqb (first_of refusals) done) outcome (says g (first_of refusals) [])

-- what a service makes of a data part that is not too long
unfoldable pub served : Gate → Service → List ℕ → Outcome
served g s body = unless g (served_lines g s body) (doing s.operation g s body)

-- demand 2's definition: the gate and a message give the gate after it and the answer
unfoldable pub answered : Gate → Message → Outcome
answered g m =
    cond (eqb (refusal g m) done)
    (doing (service_of m.command).operation g (service_of m.command) m.body)
    (says g (refusal g m) [])
