-- What a service leaves of scope and recorder, in the structs that hold them.
use Rattle.std.specs.Prelude.{List, ℕ}
use Rattle.document.specs.declared.Operation.{Operation}
use Rattle.document.specs.declared.Service.{Service}
use Rattle.scope_state.specs.Setup as scope
use Rattle.recorder_state.specs.Preparing.{both_next}
use Rattle.recorder_state.specs.Calls.{started_state, halted_state}
use Rattle.document_outcomes.specs.Changes.{Change, change_of}
use Rattle.document_outcomes.specs.Changes.Change.{nothing, store, masked_store, scope_set_up, recorder_prepare_and_start, recorder_start, recorder_stop, command_sent}
use Rattle.application_state.specs.State.{send_next}
use Rattle.state_parts.specs.State.{Instruments, with_scope, with_recorder, with_application}

-- by what it changes of the gate
abbrev pub instruments_changed : Change → Instruments → Service → List ℕ → Instruments
instruments_changed nothing i s body = i
instruments_changed store i s body = i
instruments_changed masked_store i s body = i
instruments_changed scope_set_up i s body = with_scope i (scope.set_up_next i.scope s.ex body)
instruments_changed recorder_prepare_and_start i s body = with_recorder i (both_next i.recorder s.ex body)
instruments_changed recorder_start i s body = with_recorder i (started_state i.recorder)
instruments_changed recorder_stop i s body = with_recorder i (halted_state i.recorder)
instruments_changed command_sent i s body = with_application i (send_next body i.application)

abbrev pub instruments_after : Operation → Instruments → Service → List ℕ → Instruments
instruments_after operation i s body = instruments_changed (change_of operation) i s body
