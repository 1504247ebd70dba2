-- "its messages are the ones the receiver answers on the same bytes, in order" (2026-11): of all that happened since reset, and of each byte.
use Rattle.std.specs.Prelude.{◌≡◌, cond, List, [], ◌∷◌, ◌++◌, ℕ, eqb, drop}
use Rattle.document.specs.Numbers.{sum_wrong, message_too_long, taken}
use Rattle.document.specs.Message.{Message, on_wire}
use Rattle.document.specs.Answer.{Answer}
use Rattle.document.specs.Commands.{answered}
use Rattle.document.specs.Happenings.{Since, after}
use Rattle.document.specs.Happenings.Happening.{byte}
use Rattle.document_captures.specs.Captures.{whole_and_right, whole_with_wrong_sum, too_long_with_right_sum, Entry, captured, capture_refusal}
use Rattle.call_capture.specs.declared.Listed.{Listed}

-- the class that an answer shows: 0x82, 0x83, or any other status
abbrev pub class_shown : Answer → ℕ
class_shown a = cond (eqb a.status sum_wrong) whole_with_wrong_sum (cond (eqb a.status message_too_long) too_long_with_right_sum whole_and_right)

-- "Given exactly when": class 1 with 0x82 alone, and class 2 with 0x83 alone
pub record ClassExactly (class : ℕ) (a : Answer) : Type 0 where
  pub wrong_sum : class ≡ whole_with_wrong_sum → a.status ≡ sum_wrong
  pub wrong_sum_only : a.status ≡ sum_wrong → class ≡ whole_with_wrong_sum
  pub too_long : class ≡ too_long_with_right_sum → a.status ≡ message_too_long
  pub too_long_only : a.status ≡ message_too_long → class ≡ too_long_with_right_sum

-- the entry of a message m that ends with the last of these bytes: at its place stands its start byte, and from there to the end m
pub record Ends (bytes : List ℕ) (m : Message) (e : Entry) : Type 0 where
  pub stands : drop e.place bytes ≡ on_wire m
  pub command : e.command ≡ m.command

-- what the byte b adds, to the list and to the answers
pub data Adds (s : Since) (b : ℕ) : Type 0 where
  nothing : captured (s.bytes ++ (b ∷ [])) ≡ captured s.bytes → (after s (byte b)).answers ≡ s.answers → Adds s b
  entry :
      (m : Message) (e : Entry) → captured (s.bytes ++ (b ∷ [])) ≡ captured s.bytes ++ (e ∷ []) → Ends (s.bytes ++ (b ∷ [])) m e
      → (after s (byte b)).answers ≡ s.answers ++ ((answered s.gate m).answer ∷ []) → e.class ≡ class_shown (answered s.gate m).answer
      → Adds s b

-- ---- the call itself: "Refusals: 3 when the lent list is too short, nothing written"
pub record CaptureRefused (bytes before : List ℕ) (r : Listed) (after : List ℕ) : Type 0 where
  pub number : r.refusal ≡ capture_refusal bytes before
  pub unchanged : (r.refusal ≡ taken → ⊥) → (r.count ≡ 0) × (after ≡ before)
