-- How the block holds the application command, what that stands for, and its bounds.
use Rattle.std.specs.Prelude.{Bool, true, cond, not, ◌&&◌, ◌||◌, List, ◌++◌, ℕ, eqb, leb, length, replicate, take, drop}
use Rattle.document.specs.Numbers.{most_data}
use Rattle.document.specs.Application.{Application, is_pending}
use Rattle.document.specs.Application.Application.{none, waiting, collected, ended}

-- the phases
abbrev pub is_none : ℕ
is_none = 0

abbrev pub is_waiting : ℕ
is_waiting = 1

abbrev pub is_collected : ℕ
is_collected = 2

abbrev pub is_ended : ℕ
is_ended = 3

-- the phase, how many bytes the command has, its result, and 64 bytes of which so many are the command
pub record Command : Type 0 where
  pub phase : ℕ
  pub count : ℕ
  pub result : ℕ
  pub bytes : List ℕ

abbrev pub application_of : Command → Application
application_of c =
    cond (eqb c.phase is_none) none
    (cond (eqb c.phase is_waiting) (waiting (take c.count c.bytes))
    (cond (eqb c.phase is_collected) collected (ended c.result)))

-- reset
abbrev pub no_command : Command
no_command = record { phase = is_none; count = 0; result = 0; bytes = replicate most_data 0 }

-- what is not looked at in a phase has no bounds
unfoldable pub sound : Command → Bool
sound c =
    leb c.phase is_ended
    && cond (eqb c.phase is_waiting) (not (eqb c.count 0) && leb c.count most_data)
    (cond (eqb c.phase is_ended) (leb c.result 0xFD) true)

-- ---- what is stored

-- an accepted 0x10: its bytes in front of those that were there
abbrev pub sent_command : List ℕ → Command → Command
sent_command body c = record { phase = is_waiting; count = length body; result = 0; bytes = body ++ drop (length body) c.bytes }

-- "an empty data part 0x85; 0x10 while one is pending 0x87": then nothing is stored
unfoldable pub send_next : List ℕ → Command → Command
send_next body c = cond (is_pending (application_of c) || eqb (length body) 0) c (sent_command body c)

abbrev pub collected_command : Command → Command
collected_command c =
    cond (eqb c.phase is_waiting)
    (record { phase = is_collected; count = c.count; result = c.result; bytes = c.bytes })
    c

abbrev pub ended_command : ℕ → Command → Command
ended_command result c = record { phase = is_ended; count = 0; result = result; bytes = c.bytes }
