-- What the framing of a message gives a service whose size is its own: data that hold its fields.
use Rattle.std.specs.Prelude.{List, ℕ}
use Rattle.document.specs.declared.Service.{Service}
use Rattle.document_outcomes.specs.Changes.{Change, change_of}
use Rattle.document_outcomes.specs.Changes.Change.{nothing, store, masked_store, scope_set_up, recorder_prepare_and_start, recorder_start, recorder_stop, command_sent}
use Rattle.serve_fields.specs.Found.{OwnFits}

-- how many parts of its size stand behind the address: data, or data and mask
abbrev pub parts_of : Change → ℕ
parts_of nothing = 0
parts_of store = 1
parts_of masked_store = 2
parts_of scope_set_up = 0
parts_of recorder_prepare_and_start = 0
parts_of recorder_start = 0
parts_of recorder_stop = 0
parts_of command_sent = 0

abbrev pub Framed : Service → List ℕ → Type 0
Framed s body = OwnFits s (parts_of (change_of s.operation)) body
