-- What a writer leaves in the buffer: in front what it wrote, behind that what was there.
use mathlib.Core.Path.{◌≡◌, refl}
use mathlib.Core.Bool.{true}
use mathlib.Core.List.{List, [], ◌∷◌, ◌++◌}
use Prim.Native.Nat.{ℕ, ◌≤◌}
use native.Mathlib.Nat.{zero-add}
use native.Mathlib.Omega.{arith}
use borrow.Author.Tests.{ltb-false}
use lib.Dec.{ltb}
use lib.ListN.{length, take, drop, length-append}
use lib.Seq.{sets, sets-eq, take-append_seam, drop-append_seam}
use Rattle.document.specs.Numbers.{taken}
use Rattle.document.specs.Sum.{sum_byte_of}
use Rattle.document.specs.Answer.{Answer, answer_on_wire}
use Rattle.document.specs.AnswerWriter.{answer_formed, answer_refusal, answer_written, answer_buffer}
use Rattle.document.proofs.Cases.{split}
use Rattle.line_wire.proofs.Stuffed.{stuffed_length}
use Rattle.line_wire.proofs.Statuses.{formed_few}

module _ (vs l : List ℕ) (room : length vs ≤ length l) where
  pub sets_front : take (length vs) (sets l 0 vs) ≡ vs
  sets_front = rw (sets-eq vs l 0 (omega arith), take-append_seam vs) refl

  pub sets_behind : drop (length vs) (sets l 0 vs) ≡ drop (length vs) l
  sets_behind = rw (sets-eq vs l 0 (omega arith), drop-append_seam vs, zero-add (length vs)) refl

-- "The buffer lent for an answer holds at least 132 bytes"
pub answer_fits : (a : Answer) → answer_formed a ≡ true → length (answer_on_wire a) ≤ 132
unfolding answer_on_wire
answer_fits a formed =
    let ls : List ℕ = a.body ++ (sum_byte_of (a.status ∷ a.body) ∷ []) in
    omega (arith, stuffed_length ls, length-append a.body (sum_byte_of (a.status ∷ a.body) ∷ []), formed_few a formed)

-- an answer that is not refused
module _ (a : Answer) (buffer : List ℕ) (ok : answer_refusal a buffer ≡ taken) where
  pub taken_formed : answer_formed a ≡ true
  unfolding answer_refusal
  taken_formed = split (answer_formed a) (λ e. e) (λ e. absurd (omega (arith, rw e at ok)))

  taken_room : 132 ≤ length buffer
  unfolding answer_refusal
  taken_room =
      split (ltb (length buffer) 132)
      (λ t. absurd (omega (arith, rw (taken_formed, t) at ok)))
      (λ f. ltb-false (length buffer) 132 f)

  fits : length (answer_on_wire a) ≤ length buffer
  fits = omega (arith, answer_fits a taken_formed, taken_room)

  pub written_front : take (answer_written a buffer) (answer_buffer a buffer) ≡ answer_on_wire a
  unfolding answer_written answer_buffer
  written_front = rw ok (sets_front (answer_on_wire a) buffer fits)

  pub written_behind : drop (answer_written a buffer) (answer_buffer a buffer) ≡ drop (answer_written a buffer) buffer
  unfolding answer_written answer_buffer
  written_behind = rw ok (sets_behind (answer_on_wire a) buffer fits)
