-- Which messages start and stop the recorder.
use Rattle.std.specs.Prelude.{◌≡◌, Bool, true, false, not, ◌&&◌, eqb}
use Rattle.document.specs.Numbers.{done}
use Rattle.document.specs.Message.{Message}
use Rattle.document.specs.Services.{service_of}
use Rattle.document.specs.Plan.{Plan}
use Rattle.document.specs.Run.{started}
use Rattle.document.specs.Recorder.{is_running}
use Rattle.document.specs.Recorder.Recorder.{planned}
use Rattle.document.specs.Gate.{Gate}
use Rattle.document.specs.Refusals.{refusal}
use Rattle.document.specs.Commands.{answered}
use Rattle.document_outcomes.specs.Changes.{Change, change_of}
use Rattle.document_outcomes.specs.Changes.Change.{nothing, store, masked_store, scope_set_up, recorder_prepare_and_start, recorder_start, recorder_stop, command_sent}

-- a setup, which prepares and starts, or a start while the recorder is stopped
abbrev pub begins : Change → Bool → Bool
begins nothing runs = false
begins store runs = false
begins masked_store runs = false
begins scope_set_up runs = false
begins recorder_prepare_and_start runs = true
begins recorder_start runs = not runs
begins recorder_stop runs = false
begins command_sent runs = false

abbrev pub halts : Change → Bool
halts nothing = false
halts store = false
halts masked_store = false
halts scope_set_up = false
halts recorder_prepare_and_start = false
halts recorder_start = false
halts recorder_stop = true
halts command_sent = false

-- an accepted start
abbrev pub is_start : Gate → Message → Bool
is_start g m = eqb (refusal g m) done && begins (change_of (service_of m.command).operation) (is_running g.recorder)

-- an accepted stop
abbrev pub is_stop : Gate → Message → Bool
is_stop g m = eqb (refusal g m) done && halts (change_of (service_of m.command).operation)

-- what an accepted start leaves: a recorder with its plan, at its start
pub record Begins (g : Gate) (m : Message) : Type 0 where
  pub plan : Plan
  pub recorder : (answered g m).gate.recorder ≡ planned plan started
