-- The target's state between two calls, and the gate that it stands for.
use Rattle.std.specs.Prelude.{List, ℕ}
use Rattle.document.specs.Gate.{Gate}
use Rattle.line_receiver.specs.declared.Receiver.{Receiver}
use Rattle.scope_state.specs.declared.Scope.{Scope}
use Rattle.scope_state.specs.State.{scope_of}
use Rattle.recorder_state.specs.declared.state.Recorder.{Recorder}
use Rattle.recorder_state.specs.State.{recorder_of}
use Rattle.application_state.specs.State.{Command, application_of}
use Rattle.tables_state.specs.State.{Registered, tables_of}

-- what is set up
pub record Instruments : Type 0 where
  pub scope : Scope
  pub recorder : Recorder
  pub application : Command
  pub tables : Registered

-- the receiver, the data of the message it is in, and what is set up
pub record Target : Type 0 where
  pub receiver : Receiver
  pub body : List ℕ
  pub instruments : Instruments

-- one of them changes, all others stay
abbrev pub with_scope : Instruments → Scope → Instruments
with_scope i scope = record { scope = scope; recorder = i.recorder; application = i.application; tables = i.tables }

abbrev pub with_recorder : Instruments → Recorder → Instruments
with_recorder i recorder = record { scope = i.scope; recorder = recorder; application = i.application; tables = i.tables }

abbrev pub with_application : Instruments → Command → Instruments
with_application i command = record { scope = i.scope; recorder = i.recorder; application = command; tables = i.tables }

-- what is set up changes, the link stays
abbrev pub with_instruments : Target → Instruments → Target
with_instruments t i = record { receiver = t.receiver; body = t.body; instruments = i }

-- what is set up, with the memory that is lent
abbrev pub gate_of : Instruments → List ℕ → Gate
gate_of i memory = record { memory = memory; scope = scope_of i.scope; recorder = recorder_of i.recorder; application = application_of i.application; tables = tables_of i.tables }
