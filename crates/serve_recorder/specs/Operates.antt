-- What a command that is carried out leaves: the answer, the memory, and the block with what is set up then.
use Rattle.std.specs.Prelude.{◌≡◌, List, [], ℕ}
use Rattle.std.proofs.lemmas.List.Edits.{sets}
use Rattle.document.specs.Answer.{Answer}
use Rattle.document.specs.Gate.{Outcome}
use Rattle.line_wire.specs.Told.{Told}
use Rattle.state_parts.specs.State.{Instruments}
use Rattle.state_block.specs.Places.{scope_place}
use Rattle.state_block.specs.Layout.{encoded_instruments}

abbrev pub status_alone : ℕ → Answer
status_alone status = record { status = status; body = [] }

-- the answer is a status alone, which is still to be told
pub record Settles (o : Outcome) (next : Instruments) (block : List ℕ) (status : ℕ) (after left : List ℕ) : Type 0 where
  pub answer : status_alone status ≡ o.answer
  pub memory : left ≡ o.gate.memory
  pub kept : after ≡ sets block scope_place (encoded_instruments next)

-- the answer is told
pub record Operates (o : Outcome) (next : Instruments) (block out : List ℕ) (written : ℕ) (sent after left : List ℕ) : Type 0 where
  pub told : Told o.answer out written sent
  pub memory : left ≡ o.gate.memory
  pub kept : after ≡ sets block scope_place (encoded_instruments next)
