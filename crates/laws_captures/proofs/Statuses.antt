-- 0x82 and 0x83 are the first two lines of the document's table, and no other says them: a status shows the class of its message.
use mathlib.Core.Path.{◌≡◌, refl, sym, ap, ◌∙◌}
use mathlib.Core.Bool.{true, false}
use mathlib.Core.List.{List, [], ◌∷◌}
use Prim.Native.Nat.{ℕ}
use borrow.Author.Tests.{eqb-true, eq-eqb}
use lib.Dec.{eqb, ltb}
use lib.ListN.{length, drop}
use Rattle.document.specs.Numbers.{is_in, most_data, done, sum_wrong, message_too_long, is_error}
use Rattle.document.specs.Message.{Message, sum_right}
use Rattle.document.specs.Gate.{Gate}
use Rattle.document.specs.Refusals.{Refusal, order, table, first_of, refusal}
use Rattle.document.specs.Commands.{answered}
use Rattle.document.proofs.Cases.{split, neither, none_of}
use Rattle.document.proofs.Order.{in_order, table_in_order}
use Rattle.document_outcomes.proofs.Answered.{accepted_right}
use Rattle.document_captures.specs.Captures.{class_of}
use Rattle.laws_captures.specs.Answered.{class_shown}

-- lines in an order that does not name a status never say it
pub never_first : (x : ℕ) → (done ≡ x → ⊥) → (ss : List ℕ) (rs : List Refusal) → in_order ss rs ≡ true → is_in x ss ≡ false → first_of rs ≡ x → ⊥
never_first x some [] [] ordered other is = some is
never_first x some [] (r ∷ rs) ordered other is = neither ordered
never_first x some (s ∷ ss) [] ordered other is = some is
never_first x some (s ∷ ss) (r ∷ rs) ordered other is =
    let rest = none_of (eqb x s) (is_in x ss) other in
    split (eqb s r.status)
    (λ here.
    split r.applies
    (λ applies.
    let same : s ≡ x = eqb-true s r.status here ∙ rw applies at is in
    neither (sym rest.0 ∙ eq-eqb x s (sym same)))
    (λ no. never_first x some ss rs (rw here at ordered) rest.1 (rw no at is)))
    (λ later. never_first x some ss (r ∷ rs) (rw later at ordered) rest.1 is)

module _ (g : Gate) (m : Message) where
  wrong_status : sum_right m ≡ false → (answered g m).answer.status ≡ sum_wrong
  unfolding answered refusal
  wrong_status wrong = rw wrong refl

  module _ (right : sum_right m ≡ true) where
    long_status : ltb most_data (length m.body) ≡ true → (answered g m).answer.status ≡ message_too_long
    unfolding answered refusal
    long_status long = rw (right, long) refl

    module _ (short : ltb most_data (length m.body) ≡ false) (x : ℕ) (error : is_error x ≡ true) (other : is_in x (drop 2 order) ≡ false) where
      later_refusal : refusal g m ≡ x → ⊥
      unfolding refusal
      later_refusal is =
          never_first x (λ e. neither (ap is_error e ∙ error)) (drop 2 order) (drop 2 (table g m)) (table_in_order g m) other (rw (right, short) at is)

      refused_status : eqb (refusal g m) done ≡ false → (answered g m).answer.status ≡ refusal g m
      unfolding answered
      refused_status some = rw some refl

      later_status : eqb (answered g m).answer.status x ≡ false
      later_status =
          split (eqb (answered g m).answer.status x)
          (λ e.
          let is : (answered g m).answer.status ≡ x = eqb-true _ x e in
          split (eqb (refusal g m) done)
          (λ none. neither (sym (accepted_right g m (eqb-true (refusal g m) done none)) ∙ ap is_error is ∙ error))
          (λ some. absurd (later_refusal (sym (refused_status some) ∙ is))))
          (λ e. e)

  pub status_shows : class_shown (answered g m).answer ≡ class_of m
  status_shows =
      split (sum_right m)
      (λ right.
      split (ltb most_data (length m.body))
      (λ long. rw (long_status right long, right, long) refl)
      (λ short. rw (later_status right short sum_wrong refl refl, later_status right short message_too_long refl refl, right, short) refl))
      (λ wrong. rw (wrong_status wrong, wrong) refl)
