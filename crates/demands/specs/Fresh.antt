-- Demand 3 of a run: a board before a message, before its last byte, and behind it.
use Rattle.std.specs.Prelude.{◌≡◌, List, ◌++◌, ℕ}
use Rattle.document.specs.Message.{Message}
use Rattle.document.specs.Answer.{answer_on_wire}
use Rattle.document.specs.Gate.{Gate}
use Rattle.document.specs.Commands.{answered}
use Rattle.line_receiver.specs.Demands.{EndIn}
use Rattle.demands.specs.Board.{Board, gate_in}

-- "get exactly the answer, and leave the memory, scope and recorder, that a freshly reset link would give over these as
-- they stand at the last byte": the fresh link is the definition, `answered`
pub record AnsweredFresh (start before last : Board) (beside : Gate) (m : Message) : Type 0 where
  -- before the last byte nothing is answered, and the gate is what it is without the message's bytes
  pub quiet : before.answers ≡ start.answers
  pub untouched : gate_in before ≡ beside
  -- with it comes the answer
  pub told : last.answers ≡ start.answers ++ answer_on_wire (answered (gate_in before) m).answer
  pub left : gate_in last ≡ (answered (gate_in before) m).gate

-- "A command is never carried out unless its whole message, with a right sum, stands in the bytes since one start byte.":
-- `bytes` are all the bytes since reset
pub data NothingByHalf (before last : Board) (bytes : List ℕ) : Type 0 where
  -- nothing is answered, and memory, scope and recorder stay
  nothing : last.answers ≡ before.answers → gate_in last ≡ gate_in before → NothingByHalf before last bytes
  -- or the bytes end in a start and exactly one stuffed message, and answer and change are the definition's for it
  whole :
      (m : Message) → EndIn bytes m
      → last.answers ≡ before.answers ++ answer_on_wire (answered (gate_in before) m).answer
      → gate_in last ≡ (answered (gate_in before) m).gate
      → NothingByHalf before last bytes
