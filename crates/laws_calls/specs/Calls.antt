-- The calls that a gate makes, a row for each: what it is lent and brings, the number that refuses it, what it does when it is taken, what
-- goes out with it, and what it asks for. All that is said of a call in a run is read off its row.
use Rattle.std.specs.Prelude.{◌≡◌, Bool, true, false, cond, ◌&&◌, List, [], ◌∷◌, ℕ, eqb, leb, length, take, get_or}
use Rattle.std.proofs.lemmas.List.Edits.{sets}
use Rattle.document.specs.Numbers.{answer_room, most_data, not_served, taken, state_refused}
use Rattle.document.specs.Recorder.{ticked_memory}
use Rattle.document.specs.Application.{Application, new_command, collect_buffer, is_collected}
use Rattle.document.specs.Tables.{register_refusal}
use Rattle.document.specs.Panel.{panel_prepares, panel_starts}
use Rattle.document.specs.Frames.{is_station}
use Rattle.document.specs.Modbus.{modbus_answer, modbus_memory, modbus_room, modbus_refusal, modbus_buffer}
use Rattle.document.specs.Gate.{Gate}
use Rattle.recorder_state.specs.State.{recorder_of}
use Rattle.application_state.specs.State.{application_of}
use Rattle.tables_state.specs.State.{registered_list}
use Rattle.state_parts.specs.State.{Target, gate_of}
use Rattle.state_parts.specs.Bounds.{fresh_with, fresh}
use Rattle.state_block.specs.Places.{state_length}
use Rattle.state_block.specs.Layout.{decoded, encoded}
use Rattle.call_checks.specs.Promises.{byte_number, tick_number, collect_number, report_number, panel_number}
use Rattle.state_byte.specs.Turn.{Turn, turn}
use Rattle.state_byte.specs.Walk.{Walk, begun, walked}
use Rattle.call_tick.specs.Promises.{ticked_target}
use Rattle.call_application.specs.Promises.{collected_target, reported_target}
use Rattle.call_register.specs.Promises.{register_number}
use Rattle.call_panel.specs.Promises.{prepared_target, started_target}

pub data Call : Type 0 where
  byte : ℕ → Call
  -- a block of bytes at once
  receive : List ℕ → Call
  tick : Call
  -- the gate's own program
  collect : Call
  report : ℕ → Call
  -- the front panel
  prepare : List ℕ → Call
  start : Call
  -- a frame of the second port, and the own station
  frame : ℕ → List ℕ → Call
  -- tables
  register : List ℕ → Call
  reset : Call

-- what a call is lent; what it is not lent it does not look at
pub record Lent : Type 0 where
  pub block : List ℕ
  pub memory : List ℕ
  pub buffer : List ℕ

-- what it says beside its number (a length, a status, or the bytes taken and written), and what then stands in what it was lent
pub record Left : Type 0 where
  pub said : List ℕ
  pub block : List ℕ
  pub memory : List ℕ
  pub buffer : List ℕ

-- ---- what goes out

-- over the wire, to the gate's own program, over the second port's wire
pub record Sent : Type 0 where
  pub answers : List ℕ
  pub commands : List (List ℕ)
  pub modbus_answers : List (List ℕ)

abbrev pub nothing_sent : Sent
nothing_sent = record { answers = []; commands = []; modbus_answers = [] }

-- a command, and an answer of the second port, is the first bytes of the lent buffer, as many as the call says; a length of 0 is none
abbrev pub handed_out : ℕ → List ℕ → List (List ℕ)
handed_out n told = cond (eqb n 0) [] (take n told ∷ [])

-- an answer is the first bytes of the lent buffer, as many as the call says
abbrev pub answered : ℕ → List ℕ → Sent
answered n told = record { answers = take n told; commands = []; modbus_answers = [] }

-- the length that a call says
abbrev pub length_of : Left → ℕ
length_of x = get_or x.said 0 0

-- how many bytes a block says that it took, and wrote
abbrev pub took_of : Left → ℕ
took_of x = get_or x.said 0 0

abbrev pub wrote_of : Left → ℕ
wrote_of x = get_or x.said 1 0

-- ---- what is looked at, and what is done

-- the state that the block stands for, the memory and the buffer
pub record Found : Type 0 where
  pub state : Target
  pub memory : List ℕ
  pub buffer : List ℕ

-- what it says, and what it makes of each of them
pub record Done : Type 0 where
  pub said : List ℕ
  pub state : Target
  pub memory : List ℕ
  pub buffer : List ℕ

-- another state, and the rest as it was
abbrev pub storing : Found → Target → List ℕ → Done
storing f t said = record { said = said; state = t; memory = f.memory; buffer = f.buffer }

abbrev pub turned : Turn → Done
turned u = record { said = u.length ∷ []; state = u.next; memory = u.memory; buffer = u.buffer }

abbrev pub walked_over : Walk → Done
walked_over w = record { said = w.taken ∷ w.written ∷ []; state = w.next; memory = w.memory; buffer = w.buffer }

abbrev pub command_in : Target → Application
command_in t = application_of t.instruments.application

abbrev pub gate_found : Found → Gate
gate_found f = gate_of f.state.instruments f.memory

-- ---- the rows

pub record Row : Type 0 where
  -- whether it is lent the block, and the memory
  pub on_block : Bool
  pub on_memory : Bool
  -- what it brings, of which all are bytes
  pub brings : List ℕ
  -- the number that refuses it, or 0
  pub number : Lent → ℕ
  -- what it does when it is taken
  pub does : Found → Done
  -- what it says beside its number when it is refused
  pub denied : List ℕ
  -- what goes out, of what it says and of the buffer behind it
  pub sends : List ℕ → List ℕ → Sent
  -- the room that it asks for, and what else of the state and the memory, beside that they are right
  pub room : ℕ
  pub due : Target → List ℕ → Bool

abbrev silent : List ℕ → List ℕ → Sent
silent said told = nothing_sent

abbrev always : Target → List ℕ → Bool
always t memory = true

abbrev pub row : Call → Row
row (byte b) =
    record {
      on_block = true;
      on_memory = true;
      brings = b ∷ [];
      number = λ l. byte_number l.block l.memory l.buffer;
      does = λ f. turned (turn f.state b f.memory f.buffer);
      denied = 0 ∷ [];
      sends = λ said told. answered (get_or said 0 0) told;
      room = answer_room;
      due = always;
    }
row (receive bytes) =
    record {
      on_block = true;
      on_memory = true;
      brings = bytes;
      number = λ l. byte_number l.block l.memory l.buffer;
      does = λ f. walked_over (walked (begun f.state f.memory f.buffer) bytes);
      denied = 0 ∷ 0 ∷ [];
      sends = λ said told. answered (get_or said 1 0) told;
      room = answer_room;
      due = always;
    }
row tick =
    record {
      on_block = true;
      on_memory = true;
      brings = [];
      number = λ l. tick_number l.block l.memory;
      does = λ f.
          record {
            said = [];
            state = ticked_target f.state f.memory;
            memory = ticked_memory (recorder_of f.state.instruments.recorder) f.memory;
            buffer = f.buffer;
          };
      denied = [];
      sends = silent;
      room = 0;
      due = always;
    }
row collect =
    record {
      on_block = true;
      on_memory = false;
      brings = [];
      number = λ l. collect_number l.block l.buffer;
      does = λ f.
          record {
            said = length (new_command (command_in f.state)) ∷ [];
            state = collected_target f.state;
            memory = f.memory;
            buffer = collect_buffer (command_in f.state) f.buffer;
          };
      denied = 0 ∷ [];
      sends = λ said told. record { answers = []; commands = handed_out (get_or said 0 0) told; modbus_answers = [] };
      room = most_data;
      due = always;
    }
row (report result) =
    record {
      on_block = true;
      on_memory = false;
      brings = result ∷ [];
      number = λ l. report_number l.block result;
      does = λ f. storing f (reported_target result f.state) [];
      denied = [];
      sends = silent;
      room = 0;
      -- a report waits for its command
      due = λ t memory. leb result 0xFD && is_collected (command_in t);
    }
row (prepare setup) =
    record {
      on_block = true;
      on_memory = false;
      brings = setup;
      number = λ l. panel_number l.block;
      does = λ f. storing f (prepared_target setup f.state) ((panel_prepares (gate_found f) setup).answer.status ∷ []);
      denied = not_served ∷ [];
      sends = silent;
      room = 0;
      due = always;
    }
row start =
    record {
      on_block = true;
      on_memory = false;
      brings = [];
      number = λ l. panel_number l.block;
      does = λ f. storing f (started_target f.state) ((panel_starts (gate_found f)).answer.status ∷ []);
      denied = not_served ∷ [];
      sends = silent;
      room = 0;
      due = always;
    }
row (frame station bytes) =
    record {
      on_block = false;
      on_memory = true;
      brings = bytes;
      number = λ l. modbus_refusal station l.memory l.buffer;
      does = λ f.
          record {
            said = length (modbus_answer station bytes f.memory) ∷ [];
            state = f.state;
            memory = modbus_memory station bytes f.memory;
            buffer = modbus_buffer station bytes f.memory f.buffer;
          };
      denied = 0 ∷ [];
      sends = λ said told. record { answers = []; commands = []; modbus_answers = handed_out (get_or said 0 0) told };
      room = modbus_room;
      due = λ t memory. is_station station;
    }
row (register list) =
    record {
      on_block = true;
      on_memory = true;
      brings = list;
      number = λ l. register_number l.block l.memory list;
      does = λ f. storing f (fresh_with (registered_list list)) [];
      denied = [];
      sends = silent;
      room = 0;
      due = λ t memory. eqb (register_refusal memory list) taken;
    }
row reset =
    record {
      on_block = true;
      on_memory = false;
      brings = [];
      number = λ l. cond (leb state_length (length l.block)) taken state_refused;
      does = λ f. storing f fresh [];
      denied = [];
      sends = silent;
      room = 0;
      due = always;
    }

-- what it is not lent it does not look at, and leaves
abbrev pub found_by : Call → Lent → Found
found_by c l =
    record {
      state = cond (row c).on_block (decoded l.block) fresh;
      memory = cond (row c).on_memory l.memory [];
      buffer = l.buffer;
    }

abbrev pub done_by : Call → Lent → Done
done_by c l = (row c).does (found_by c l)

-- a state is stored in the block, and the bytes behind it stay as they were
abbrev pub leaves : Call → Lent → Left
leaves c l =
    record {
      said = (done_by c l).said;
      block = cond (row c).on_block (sets l.block 0 (encoded (done_by c l).state)) l.block;
      memory = cond (row c).on_memory (done_by c l).memory l.memory;
      buffer = (done_by c l).buffer;
    }

abbrev pub number_of : Call → Lent → ℕ
number_of c l = (row c).number l

abbrev pub sends : Call → Left → Sent
sends c x = (row c).sends x.said x.buffer

-- ---- refused or not

-- "changes no byte lent to the call"
abbrev pub kept : Call → Lent → Left
kept c l = record { said = (row c).denied; block = l.block; memory = l.memory; buffer = l.buffer }

pub record Outcome : Type 0 where
  pub number : ℕ
  pub left : Left

abbrev pub outcome : Call → Lent → Outcome
outcome c l = record { number = number_of c l; left = cond (eqb (number_of c l) taken) (leaves c l) (kept c l) }

-- Demand 1: "one number from the document, given exactly when the document says, and changes no byte lent to the call"
pub record CallRefused (c : Call) (l : Lent) (o : Outcome) : Type 0 where
  pub number : o.number ≡ number_of c l
  pub unchanged : (o.number ≡ taken → ⊥) → o.left ≡ kept c l
