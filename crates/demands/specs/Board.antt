-- A gate as its firmware has it: the block that it lends to the calls, its memory, what went over the wires of both ports, and what
-- its own program was handed.
use Rattle.std.specs.Prelude.{List, [], ◌++◌, ℕ}
use Rattle.document.specs.Gate.{Gate}
use Rattle.state_parts.specs.State.{gate_of}
use Rattle.state_block.specs.Layout.{decoded}
use Rattle.laws_calls.specs.Calls.{Sent}

pub record Board : Type 0 where
  pub block : List ℕ
  pub memory : List ℕ
  -- the answers as their bytes went over the wire, one behind another
  pub answers : List ℕ
  -- each application command as it was collected
  pub commands : List (List ℕ)
  -- each answer of the second port; silence is none (2026-07)
  pub modbus_answers : List (List ℕ)

-- the memory, scope, recorder, application command and tables that it stands for
abbrev pub gate_in : Board → Gate
gate_in h = gate_of (decoded h.block).instruments h.memory

-- at a reset nothing has gone out
abbrev pub begun : List ℕ → List ℕ → Board
begun block memory = record { block = block; memory = memory; answers = []; commands = []; modbus_answers = [] }

abbrev pub with_memory : Board → List ℕ → Board
with_memory h memory =
    record { block = h.block; memory = memory; answers = h.answers; commands = h.commands; modbus_answers = h.modbus_answers }

-- the board behind a call that left this block and this memory
abbrev pub behind : Board → List ℕ → List ℕ → Sent → Board
behind h block memory sent =
    record {
      block = block;
      memory = memory;
      answers = h.answers ++ sent.answers;
      commands = h.commands ++ sent.commands;
      modbus_answers = h.modbus_answers ++ sent.modbus_answers;
    }
