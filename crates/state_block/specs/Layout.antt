-- The target's state as a block of bytes: every block is a state, and every state a block. docs/STATE.md has the table of places.
use Rattle.std.specs.Prelude.{true, List, [], ◌∷◌, ◌++◌, ℕ, ◌+◌, ◌-◌, get_or, drop}
use Rattle.document.specs.Numbers.{most_data}
use Rattle.document.specs.Areas.{bytes_at}
use Rattle.document.specs.Values.{number, little_endian}
use Rattle.document.specs.declared.Variable.{Variable}
use Rattle.document.specs.Variables.{definitions_in}
use Rattle.variables_list.specs.declared.Variables.{Variables}
use Rattle.line_receiver.specs.declared.Receiver.{Receiver}
use Rattle.scope_state.specs.declared.Scope.{Scope}
use Rattle.recorder_plans.specs.declared.plan.Plan.{Plan}
use Rattle.recorder_runs.specs.declared.run.Run.{Run}
use Rattle.recorder_state.specs.declared.state.Recorder.{Recorder}
use Rattle.application_state.specs.State.{Command}
use Rattle.tables_state.specs.State.{Registered, list_length}
use Rattle.state_parts.specs.State.{Instruments, Target}
use Rattle.state_block.specs.Places.{body_place, scope_place, recorder_place, plan_place, samples_place, post_trigger_place, divider_place, trigger_address_place, trigger_size_place, sign_place, threshold_place, recorded_place, run_place, full_place, watch_place, wait_place, place_place, value_place, application_place, command_place, tables_place, list_place}

-- ---- from a block to the state that it is

unfoldable pub decoded_receiver : List ℕ → Receiver
decoded_receiver block =
    record {
      waiting = get_or block 0 0;
      phase = get_or block 1 0;
      command = get_or block 2 0;
      length = get_or block 3 0;
      have = get_or block 4 0;
      sum = get_or block 5 0;
    }

abbrev pub decoded_body : List ℕ → List ℕ
decoded_body block = bytes_at block body_place most_data

-- the body up to a place: the data of a message that ends there
abbrev pub data_to : List ℕ → ℕ → List ℕ
data_to block to = bytes_at block body_place (to - body_place)

-- a count, then size and address each, as an EX setup's data part has them; always eight
unfoldable pub decoded_definitions : List ℕ → ℕ → List Variable
decoded_definitions block at = definitions_in true 8 (drop at block)

abbrev pub decoded_variables : List ℕ → ℕ → Variables
decoded_variables block at = record { count = get_or block at 0; list = decoded_definitions block (at + 1) }

unfoldable pub decoded_scope : List ℕ → Scope
decoded_scope block = record { variables = decoded_variables block scope_place }

-- in the order of the data part of 0x0B
abbrev pub decoded_plan : List ℕ → Plan
decoded_plan block =
    record {
      mode = get_or block plan_place 0;
      samples = number (bytes_at block samples_place 2);
      post_trigger = number (bytes_at block post_trigger_place 2);
      divider = number (bytes_at block divider_place 2);
      address = number (bytes_at block trigger_address_place 4);
      size = get_or block trigger_size_place 0;
      sign = get_or block sign_place 0;
      threshold = number (bytes_at block threshold_place 4);
      variables = decoded_variables block recorded_place;
    }

abbrev pub decoded_run : List ℕ → Run
decoded_run block =
    record {
      running = get_or block run_place 0;
      full = get_or block full_place 0;
      watch = get_or block watch_place 0;
      wait = number (bytes_at block wait_place 2);
      place = number (bytes_at block place_place 2);
      value = number (bytes_at block value_place 4);
    }

unfoldable pub decoded_recorder : List ℕ → Recorder
decoded_recorder block = record { ready = get_or block recorder_place 0; plan = decoded_plan block; run = decoded_run block }

unfoldable pub decoded_application : List ℕ → Command
decoded_application block =
    record {
      phase = get_or block application_place 0;
      count = get_or block (application_place + 1) 0;
      result = get_or block (application_place + 2) 0;
      bytes = bytes_at block command_place most_data;
    }

unfoldable pub decoded_tables : List ℕ → Registered
decoded_tables block = record { count = get_or block tables_place 0; list = bytes_at block list_place list_length }

abbrev pub decoded_instruments : List ℕ → Instruments
decoded_instruments block =
    record { scope = decoded_scope block; recorder = decoded_recorder block; application = decoded_application block; tables = decoded_tables block }

abbrev pub decoded : List ℕ → Target
decoded block =
    record { receiver = decoded_receiver block; body = decoded_body block; instruments = decoded_instruments block }

-- ---- from a state to its block

unfoldable pub encoded_receiver : Receiver → List ℕ
encoded_receiver r = r.waiting ∷ r.phase ∷ r.command ∷ r.length ∷ r.have ∷ r.sum ∷ []

abbrev pub encoded_definitions : List Variable → List ℕ
encoded_definitions [] = []
encoded_definitions (v ∷ vs) = v.size ∷ little_endian 4 v.address ++ encoded_definitions vs

abbrev pub encoded_variables : Variables → List ℕ
encoded_variables v = v.count ∷ encoded_definitions v.list

unfoldable pub encoded_scope : Scope → List ℕ
encoded_scope s = encoded_variables s.variables

-- the plan's numbers, in front of its variables: how it records, and what it waits for
abbrev pub encoded_ring : Plan → List ℕ
encoded_ring p = p.mode ∷ little_endian 2 p.samples ++ little_endian 2 p.post_trigger ++ little_endian 2 p.divider

abbrev pub encoded_trigger : Plan → List ℕ
encoded_trigger p = little_endian 4 p.address ++ (p.size ∷ p.sign ∷ little_endian 4 p.threshold)

abbrev pub encoded_numbers : Plan → List ℕ
encoded_numbers p = encoded_ring p ++ encoded_trigger p

-- the run: its flags, and its counts behind them
abbrev pub encoded_flags : Run → List ℕ
encoded_flags r = r.running ∷ r.full ∷ r.watch ∷ []

abbrev pub encoded_counts : Run → List ℕ
encoded_counts r = little_endian 2 r.wait ++ little_endian 2 r.place ++ little_endian 4 r.value

unfoldable pub encoded_run : Run → List ℕ
encoded_run r = encoded_flags r ++ encoded_counts r

unfoldable pub encoded_recorder : Recorder → List ℕ
encoded_recorder r = r.ready ∷ encoded_numbers r.plan ++ encoded_variables r.plan.variables ++ encoded_run r.run

unfoldable pub encoded_application : Command → List ℕ
encoded_application c = c.phase ∷ c.count ∷ c.result ∷ c.bytes

unfoldable pub encoded_tables : Registered → List ℕ
encoded_tables r = r.count ∷ r.list

abbrev pub encoded_instruments : Instruments → List ℕ
encoded_instruments i =
    encoded_scope i.scope ++ (encoded_recorder i.recorder ++ (encoded_application i.application ++ encoded_tables i.tables))

abbrev pub encoded : Target → List ℕ
encoded t = encoded_receiver t.receiver ++ (t.body ++ encoded_instruments t.instruments)
