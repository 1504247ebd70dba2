-- "Numbers that refuse": "On the wire, the first that applies in this order."
use Rattle.std.specs.Prelude.{Bool, true, cond, not, ◌&&◌, List, [], ◌∷◌, ℕ, ◌+◌, ◌*◌, length, eqb, ltb}
use Rattle.document.specs.Numbers.{most_data, done, not_served, sum_wrong, message_too_long, answer_too_long, layout_wrong, size_wrong, busy, not_set_up, range_wrong}
use Rattle.document.specs.Message.{Message, sum_right}
use Rattle.document.specs.Areas.{may_be_read}
use Rattle.document.specs.Scope.{scope_absent, scope_layout_wrong, scope_size_wrong, scope_range_wrong, scope_too_long}
use Rattle.document.specs.Plan.{recorder_layout_wrong, recorder_size_wrong, recorder_range_wrong}
use Rattle.document.specs.Recorder.{recorder_absent, is_running}
use Rattle.document.specs.Services.{service_of}
use Rattle.document.specs.Fields.{has_size, size_field, address_field, data_place}
use Rattle.document.specs.Values.{number}
use Rattle.document.specs.Variables.{address_width}
use Rattle.document.specs.Strings.{string_ends}
use Rattle.document.specs.Application.{is_pending}
use Rattle.document.specs.Gate.{Gate}
use Rattle.document.specs.Permission.{may_be_written}
use Rattle.document.specs.declared.Operation.{Operation}
use Rattle.document.specs.declared.Operation.TheVariants.{Unserved, Describe, DescribeBriefly, Read, Write, WriteMasked, SetUpScope, ReadScope, PrepareAndStart, Start, Stop, Status, QueryBuffer, SendCommand, CommandResult, TellTable, MeasureString}
use Rattle.document.specs.declared.Service.{Service}

-- a line of the table: the status, and whether it applies
pub record Refusal : Type 0 where
  pub status : ℕ
  pub applies : Bool

abbrev pub when : ℕ → Bool → Refusal
when status applies = record { status = status; applies = applies }

-- the table's order
abbrev pub order : List ℕ
order =
    sum_wrong ∷ message_too_long ∷ not_served ∷ not_set_up ∷ busy ∷ layout_wrong ∷ size_wrong ∷ answer_too_long ∷ range_wrong ∷ []

-- ---- the lines that concern an operation, each list in the table's order

-- "a data length that is not the one its fields give": n bytes of data, and as many of mask, behind the address
abbrev pub is_block_wrong : Service → List ℕ → ℕ → Bool
is_block_wrong s body n = has_size s && not (eqb (length body) (data_place s + n))

-- "a size of 0"
abbrev pub is_block_empty : Service → List ℕ → Bool
is_block_empty s body = has_size s && eqb (size_field s body) 0

-- "the answer's data would exceed 64 bytes"; "an address range not wholly where that command may go"
abbrev pub read_lines : Service → List ℕ → List Refusal
read_lines s body =
    when layout_wrong (is_block_wrong s body 0)
    ∷ when size_wrong (is_block_empty s body)
    ∷ when answer_too_long (ltb most_data (size_field s body))
    ∷ when range_wrong (not (may_be_read (address_field s body) (size_field s body)))
    ∷ []

-- a write with n bytes behind its address
abbrev pub write_lines : Gate → Service → List ℕ → ℕ → List Refusal
write_lines g s body n =
    when layout_wrong (is_block_wrong s body n)
    ∷ when size_wrong (is_block_empty s body)
    ∷ when range_wrong (not (may_be_written g (address_field s body) (size_field s body)))
    ∷ []

abbrev pub scope_set_up_lines : Bool → List ℕ → List Refusal
scope_set_up_lines ex body =
    when layout_wrong (scope_layout_wrong ex body)
    ∷ when size_wrong (scope_size_wrong ex body)
    ∷ when range_wrong (scope_range_wrong ex body)
    ∷ []

-- "scope read with no accepted scope setup"
abbrev pub scope_read_lines : Gate → List Refusal
scope_read_lines g = when not_set_up (scope_absent g.scope) ∷ when answer_too_long (scope_too_long g.scope) ∷ []

-- "recorder setup .. while the recorder runs"
abbrev pub recorder_set_up_lines : Gate → Bool → List ℕ → List Refusal
recorder_set_up_lines g ex body =
    when busy (is_running g.recorder)
    ∷ when layout_wrong (recorder_layout_wrong ex body)
    ∷ when size_wrong (recorder_size_wrong ex body)
    ∷ when range_wrong (recorder_range_wrong ex body)
    ∷ []

-- "start, stop, status .. with no accepted recorder setup since reset"
abbrev pub recorder_lines : Gate → List Refusal
recorder_lines g = when not_set_up (recorder_absent g.recorder) ∷ []

-- "or buffer query", "buffer query while the recorder runs"
abbrev pub query_lines : Gate → List Refusal
query_lines g = when not_set_up (recorder_absent g.recorder) ∷ when busy (is_running g.recorder) ∷ []

-- "an empty data part 0x85; 0x10 while one is pending 0x87" (2026-01)
abbrev pub send_lines : Gate → List ℕ → List Refusal
send_lines g body = when busy (is_pending g.application) ∷ when layout_wrong (eqb (length body) 0) ∷ []

-- the data are an index of 2 bytes (2026-03)
abbrev pub table_lines : List ℕ → List Refusal
table_lines body = when layout_wrong (not (eqb (length body) 2)) ∷ []

-- the data are an address; "a string that begins in memory and has no zero before memory's end 0x86, its address outside 0x89"
abbrev pub string_lines : Gate → Bool → List ℕ → List Refusal
string_lines g ex body =
    when layout_wrong (not (eqb (length body) (address_width ex)))
    ∷ when size_wrong (may_be_read (number body) 1 && not (string_ends g.memory (number body)))
    ∷ when range_wrong (not (may_be_read (number body) 1))
    ∷ []

abbrev pub lines : Operation → Gate → Service → List ℕ → List Refusal
lines Unserved g s body = when not_served true ∷ []
lines Describe g s body = []
lines DescribeBriefly g s body = []
lines Read g s body = read_lines s body
lines Write g s body = write_lines g s body (size_field s body)
lines WriteMasked g s body = write_lines g s body (2 * size_field s body)
lines SetUpScope g s body = scope_set_up_lines s.ex body
lines ReadScope g s body = scope_read_lines g
lines PrepareAndStart g s body = recorder_set_up_lines g s.ex body
lines Start g s body = recorder_lines g
lines Stop g s body = recorder_lines g
lines Status g s body = recorder_lines g
lines QueryBuffer g s body = query_lines g
lines SendCommand g s body = send_lines g body
lines CommandResult g s body = []
lines TellTable g s body = table_lines body
lines MeasureString g s body = string_lines g s.ex body

-- ---- of a message

-- what its service refuses
abbrev pub served_lines : Gate → Service → List ℕ → List Refusal
served_lines g s body = lines s.operation g s body

abbrev pub table : Gate → Message → List Refusal
table g m =
    when sum_wrong (not (sum_right m))
    ∷ when message_too_long (ltb most_data (length m.body))
    ∷ served_lines g (service_of m.command) m.body

-- "the first that applies"; `done` where none does
abbrev pub first_of : List Refusal → ℕ
first_of [] = done
first_of (r ∷ rs) = cond r.applies r.status (first_of rs)

unfoldable pub refusal : Gate → Message → ℕ
refusal g m = first_of (table g m)
