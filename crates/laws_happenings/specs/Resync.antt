-- Demand 3 of the definition, over what happens to a gate: what a message's bytes leave, and what an answer takes.
use Rattle.std.specs.Prelude.{◌≡◌, List, [], ◌∷◌, ◌++◌, ℕ}
use Rattle.document.specs.Message.{Message}
use Rattle.document.specs.Commands.{answered}
use Rattle.document.specs.Happenings.{Happening, Since, after, after_all}
use Rattle.document.specs.Happenings.Happening.{byte}
use Rattle.line_receiver.specs.Demands.{EndIn}
use Rattle.laws_happenings.specs.Bytes.{beside_bytes}

-- "a start byte and a well-formed stuffed message get exactly the answer, and leave the memory, scope and recorder, that a
-- freshly reset link would give over these as they stand at the last byte": `hs` brings all of it but its last byte b
pub record Resynchronised (s : Since) (hs : List Happening) (b : ℕ) (m : Message) : Type 0 where
  -- before the last byte there is no answer, and its bytes changed nothing
  pub quiet : (after_all s hs).answers ≡ s.answers
  pub untouched : (after_all s hs).gate ≡ (after_all s (beside_bytes hs)).gate
  -- with it comes the definition's answer, over the gate as it stands then
  pub told : (after (after_all s hs) (byte b)).answers ≡ s.answers ++ ((answered (after_all s hs).gate m).answer ∷ [])
  pub left : (after (after_all s hs) (byte b)).gate ≡ (answered (after_all s hs).gate m).gate

-- "A command is never carried out unless its whole message, with a right sum, stands in the bytes since one start byte."
pub data ByHalf (s : Since) (b : ℕ) : Type 0 where
  -- nothing is answered and nothing changes
  nothing : (after s (byte b)).answers ≡ s.answers → (after s (byte b)).gate ≡ s.gate → ByHalf s b
  -- or the bytes end in a start and exactly one stuffed message, and the answer and the change are the definition's for it
  whole :
      (m : Message) → EndIn (s.bytes ++ (b ∷ [])) m
      → (after s (byte b)).answers ≡ s.answers ++ ((answered s.gate m).answer ∷ [])
      → (after s (byte b)).gate ≡ (answered s.gate m).gate
      → ByHalf s b
