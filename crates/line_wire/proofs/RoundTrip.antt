-- Round trips: what goes over an idle line as a message or an answer is found as that, at its last byte and not before.
use Prim.Native.Nat.{ℕ}
use mathlib.Core.Path.{◌≡◌, ◌∙◌}
use mathlib.Core.List.{List, [], ◌∷◌, ◌++◌}
use mathlib.Core.Bool.{true, false, cond}
use lib.ListN.{length}
use lib.Dec.{eqb}
use Rattle.document.specs.Numbers.{is_error}
use Rattle.document.specs.Sum.{sum_byte_of}
use Rattle.document.specs.Message.{Message, well_formed, on_wire, finished_by}
use Rattle.document.specs.Answer.{Answer, Reading, answer_on_wire, answer_finished_by, reading_right, whole_answer}
use Rattle.line_wire.proofs.Pairing.{reset}
use Rattle.line_wire.proofs.Machine.{answer_finished_found}
use Rattle.line_wire.proofs.RightSum.{adds_up_lem}
use Rattle.line_wire.proofs.Frames.{Frame, counted_whole, counted_short, found_last, found_before}
use Rattle.line_wire.proofs.Resync.{message_last, message_before}

-- ---- messages
module _ (m : Message) (formed : well_formed m ≡ true) where
  pub message_back : (front : List ℕ) (b : ℕ) → on_wire m ≡ front ++ (b ∷ []) → finished_by front b ≡ m ∷ []
  message_back = message_last m formed [] reset

  pub message_quiet : (front : List ℕ) (b d : ℕ) (rest : List ℕ) → on_wire m ≡ front ++ (b ∷ d ∷ rest) →
      finished_by front b ≡ []
  message_quiet = message_before m formed [] reset

-- ---- answers
-- the answer with its right sum byte
abbrev pub read_back : Answer → Reading
read_back a = record { answer = a; sum_byte = sum_byte_of (a.status ∷ a.body) }

pub back_right : (a : Answer) → reading_right (read_back a) ≡ true
back_right a = adds_up_lem (a.status ∷ a.body)

abbrev reading : ℕ → List ℕ → ℕ → Reading
reading s body sum = record { answer = record { status = s; body = body }; sum_byte = sum }

-- data of the expected length beside a status with its top bit clear, none beside one with it set
module _ (a : Answer) (expected : ℕ) (other : eqb a.status 0x2B ≡ false) (fits : length a.body ≡ cond (is_error a.status) 0 expected) where
  answer_frame : Frame (whole_answer expected) a.status (a.body ++ (sum_byte_of (a.status ∷ a.body) ∷ [])) (read_back a)
  answer_frame =
      record {
        other = other;
        makes = counted_whole (reading a.status) _ a.body (sum_byte_of (a.status ∷ a.body)) fits;
        short = counted_short (reading a.status) _ a.body (sum_byte_of (a.status ∷ a.body)) fits;
      }

  pub answer_back : (front : List ℕ) (b : ℕ) → answer_on_wire a ≡ front ++ (b ∷ []) →
      answer_finished_by expected front b ≡ read_back a ∷ []
  unfolding answer_on_wire
  answer_back front b e = answer_finished_found expected front b ∙ found_last answer_frame [] reset front b e

  pub answer_quiet : (front : List ℕ) (b d : ℕ) (rest : List ℕ) → answer_on_wire a ≡ front ++ (b ∷ d ∷ rest) →
      answer_finished_by expected front b ≡ []
  unfolding answer_on_wire
  answer_quiet front b d rest e =
      answer_finished_found expected front b ∙ found_before answer_frame [] reset front b d rest e
