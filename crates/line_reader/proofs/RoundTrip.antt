-- Round trip: what the answer writer writes, the reader gives back at its last byte, and nothing before.
use mathlib.Core.Path.{◌≡◌, refl, sym, ap, ◌∙◌}
use mathlib.Core.Bool.{true, false, cond}
use mathlib.Core.List.{List, [], ◌∷◌, ◌++◌}
use Prim.Native.Nat.{ℕ}
use native.Mathlib.Omega.{arith}
use lib.ListN.{length, take}
use Rattle.document.specs.Numbers.{taken, is_error}
use Rattle.document.specs.Answer.{Answer, answer_on_wire}
use Rattle.document.specs.AnswerWriter.{answer_formed, answer_refusal, answer_written, answer_buffer}
use Rattle.document.specs.AnswerReader.{brought_by, brought}
use Rattle.document.specs.AnswerReader.Brought.{nothing, answer}
use Rattle.document.proofs.Cases.{split}
use Rattle.line_wire.proofs.Left.{taken_formed, written_front}
use Rattle.line_wire.proofs.Statuses.{formed_other, formed_bare}
use Rattle.line_wire.proofs.RoundTrip.{back_right, answer_back, answer_quiet}

-- the reading expects the answer's data, where its status has any
module _ (a : Answer) (n : ℕ) (formed : answer_formed a ≡ true) (expects : is_error a.status ≡ false → n ≡ length a.body) where
  fits : length a.body ≡ cond (is_error a.status) 0 n
  fits =
      split (is_error a.status)
      (λ error. rw error (omega (arith, formed_bare a formed error)))
      (λ done. rw done (sym (expects done)))

  -- at its last byte, behind all others
  pub answer_read : (front : List ℕ) (b : ℕ) → answer_on_wire a ≡ front ++ (b ∷ []) → brought n front b ≡ answer a
  unfolding brought
  answer_read front b e =
      ap brought_by (answer_back a n (formed_other a formed) fits front b e) ∙ rw (back_right a) refl

  -- at any byte before
  pub answer_awaited : (front : List ℕ) (b d : ℕ) (rest : List ℕ) → answer_on_wire a ≡ front ++ (b ∷ d ∷ rest) → brought n front b ≡ nothing
  unfolding brought
  answer_awaited front b d rest e =
      ap brought_by (answer_quiet a n (formed_other a formed) fits front b d rest e)

-- the bytes that the answer writer left in its buffer, read one after the other
module _ (a : Answer) (n : ℕ) (buffer : List ℕ) (ok : answer_refusal a buffer ≡ taken) (expects : is_error a.status ≡ false → n ≡ length a.body) where
  pub written_read : (front : List ℕ) (b : ℕ) → take (answer_written a buffer) (answer_buffer a buffer) ≡ front ++ (b ∷ []) → brought n front b ≡ answer a
  written_read front b e =
      answer_read a n (taken_formed a buffer ok) expects front b (sym (written_front a buffer ok) ∙ e)

  pub written_awaited : (front : List ℕ) (b d : ℕ) (rest : List ℕ) → take (answer_written a buffer) (answer_buffer a buffer) ≡ front ++ (b ∷ d ∷ rest) → brought n front b ≡ nothing
  written_awaited front b d rest e =
      answer_awaited a n (taken_formed a buffer ok) expects front b d rest (sym (written_front a buffer ok) ∙ e)
