-- What happens beside the line, a row for each: whose doing it is, what it brings, and what it does to each part of a gate. All that is
-- said here and above of an aside is read off its row.
use Rattle.std.specs.Prelude.{◌≡◌, Bool, true, false, not, ◌&&◌, List, [], ◌∷◌, ℕ, eqb, leb}
use Rattle.document.specs.Numbers.{done}
use Rattle.document.specs.Recorder.{is_running}
use Rattle.document.specs.Application.{Application, new_command, is_collected, after_collect, after_report}
use Rattle.document.specs.Gate.{Gate}
use Rattle.document.specs.Refusals.{first_of, recorder_lines}
use Rattle.document.specs.Panel.{prepare_lines, panel_prepares, panel_starts}
use Rattle.document.specs.Recorder.{Recorder, ticked as tickedRecorder}
use Rattle.document.specs.Frames.{is_station}
use Rattle.document.specs.Modbus.{modbus_answer}
use Rattle.document.specs.Asides.{Aside}
use Rattle.document.specs.Asides.Aside.{tick, writes, collects, reports, prepares, starts, frames}

-- ---- whose doing it is

pub data Side : Type 0 where
  -- the gate's own program
  program : Side
  -- the service port's side, with its ticks and the panel
  service : Side
  -- the mill's controller, on the second port
  controller : Side

abbrev pub is_program : Side → Bool
is_program program = true
is_program service = false
is_program controller = false

abbrev pub is_service : Side → Bool
is_service program = false
is_service service = true
is_service controller = false

abbrev pub is_controller : Side → Bool
is_controller program = false
is_controller service = false
is_controller controller = true

-- ---- the application command (2026-01)

pub data CommandStep : Type 0 where
  kept : CommandStep
  collected : CommandStep
  reported : ℕ → CommandStep

abbrev pub command_after : CommandStep → Application → Application
command_after kept a = a
command_after collected a = after_collect a
command_after (reported result) a = after_report result a

-- a command has its code at least: where there is no byte, there is none
abbrev pub if_any : List ℕ → List (List ℕ)
if_any [] = []
if_any (code ∷ arguments) = (code ∷ arguments) ∷ []

-- the command that a collect would hand out, if one waits
abbrev pub waiting_in : Application → List (List ℕ)
waiting_in a = if_any (new_command a)

abbrev pub handed_by : CommandStep → Application → List (List ℕ)
handed_by kept a = []
handed_by collected a = waiting_in a
handed_by (reported result) a = []

-- no result comes for a collected command
abbrev pub NoResultBy : CommandStep → Application → Type 0
NoResultBy kept a = Unit {0}
NoResultBy collected a = Unit {0}
NoResultBy (reported result) a = is_collected a ≡ false

-- ---- the recorder

pub data RecorderStep : Type 0 where
  stays : RecorderStep
  ticked : RecorderStep
  prepared : List ℕ → RecorderStep
  started : RecorderStep

abbrev pub is_ticked : RecorderStep → Bool
is_ticked stays = false
is_ticked ticked = true
is_ticked (prepared setup) = false
is_ticked started = false

abbrev pub recorder_after : RecorderStep → Gate → Recorder
recorder_after stays g = g.recorder
recorder_after ticked g = tickedRecorder g.recorder g.memory
recorder_after (prepared setup) g = (panel_prepares g setup).gate.recorder
recorder_after started g = (panel_starts g).gate.recorder

-- the panel's preparing is accepted (2026-06)
abbrev pub prepares_anew : Gate → List ℕ → Bool
prepares_anew g setup = eqb (first_of (prepare_lines g setup)) done

-- the panel's start is, and the recorder does not run
abbrev pub starts_anew : Gate → Bool
starts_anew g = eqb (first_of (recorder_lines g)) done && not (is_running g.recorder)

-- it sets the recorder up or starts it anew
abbrev pub is_anew : RecorderStep → Gate → Bool
is_anew stays g = false
is_anew ticked g = false
is_anew (prepared setup) g = prepares_anew g setup
is_anew started g = starts_anew g

-- ---- the rows

pub record Row : Type 0 where
  pub side : Side
  -- what it brings, of which all are bytes
  pub brings : List ℕ
  -- whether it can happen now: a report waits for its command, and a frame for a gate that has its station
  pub due : Application → Bool
  -- whether it may write the memory
  pub stores : Bool
  pub command : CommandStep
  pub recorder : RecorderStep
  -- what the second port answers over this memory; none is silence (2026-07)
  pub answer : List ℕ → List ℕ

abbrev silence : List ℕ → List ℕ
silence memory = []

abbrev always : Application → Bool
always a = true

abbrev pub row : Aside → Row
row tick = record { side = service; brings = []; due = always; stores = true; command = kept; recorder = ticked; answer = silence }
row (writes address bytes) =
    record { side = program; brings = bytes; due = always; stores = true; command = kept; recorder = stays; answer = silence }
row collects = record { side = service; brings = []; due = always; stores = false; command = collected; recorder = stays; answer = silence }
row (reports result) =
    record {
      side = service;
      brings = result ∷ [];
      due = λ a. leb result 0xFD && is_collected a;
      stores = false;
      command = reported result;
      recorder = stays;
      answer = silence;
    }
row (prepares setup) =
    record { side = service; brings = setup; due = always; stores = false; command = kept; recorder = prepared setup; answer = silence }
row starts = record { side = service; brings = []; due = always; stores = false; command = kept; recorder = started; answer = silence }
row (frames station frame) =
    record {
      side = controller;
      brings = frame;
      due = λ a. is_station station;
      stores = true;
      command = kept;
      recorder = stays;
      answer = modbus_answer station frame;
    }

abbrev pub is_tick : Aside → Bool
is_tick a = is_ticked (row a).recorder

abbrev pub is_own : Aside → Bool
is_own a = is_program (row a).side

abbrev pub is_frame : Aside → Bool
is_frame a = is_controller (row a).side
