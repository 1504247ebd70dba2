-- 0x82 is the first line of the document's table, and no other says it.
use mathlib.Core.Path.{◌≡◌, refl, sym, ap, ◌∙◌}
use mathlib.Core.Bool.{true, false}
use mathlib.Core.List.{List, [], ◌∷◌, append_cancel_left}
use Prim.Native.Nat.{ℕ}
use native.Mathlib.Omega.{arith}
use borrow.Author.Tests.{eqb-true, eqb-false}
use lib.Dec.{eqb}
use lib.ListN.{drop, get_or}
use Rattle.document.specs.Numbers.{done, sum_wrong, is_error}
use Rattle.document.specs.Message.{Message, sum_right, finished_by}
use Rattle.document.specs.Answer.{Answer, answer_on_wire}
use Rattle.document.specs.Gate.{Gate, Outcome}
use Rattle.document.specs.Refusals.{order, table, refusal}
use Rattle.document.specs.Commands.{answered}
use Rattle.document.specs.Happenings.{Since, after}
use Rattle.document.specs.Happenings.Happening.{byte}
use Rattle.document.proofs.Cases.{split, neither}
use Rattle.document.proofs.Order.{table_in_order}
use Rattle.document_outcomes.proofs.Answered.{accepted_right}
use Rattle.laws_captures.proofs.Statuses.{never_first}
use Rattle.demands.specs.Board.{Board, gate_in}
use Rattle.demands.specs.AsDefined.{AsDefined}
use Rattle.demands.specs.Sums.{sum_answer, SumExactly}
use Rattle.demands.proofs.Wire.{wire_refused, sum_refused_lem}
use Rattle.demands.proofs.Applying.{answers_then, only_said}

module _ (g : Gate) (m : Message) where
  right_refusal : sum_right m ≡ true → refusal g m ≡ sum_wrong → ⊥
  unfolding refusal
  right_refusal right is =
      never_first sum_wrong (λ z. omega arith) (drop 1 order) (drop 1 (table g m)) (table_in_order g m) refl (rw right at is)

  -- only a wrong sum gets 0x82
  sum_only : (answered g m).answer.status ≡ sum_wrong → sum_right m ≡ false
  sum_only is =
      split (sum_right m)
      (λ right.
      split (eqb (refusal g m) done)
      (λ none. neither (sym (accepted_right g m (eqb-true (refusal g m) done none)) ∙ ap is_error is))
      (λ some.
      let refused = (wire_refused g m).refused (eqb-false (refusal g m) done some) in
      absurd (right_refusal right (sym (ap (λ (o : Outcome). o.answer.status) refused) ∙ is))))
      (λ wrong. wrong)

-- the status stands behind the start byte
status_on_wire : (a b : Answer) → answer_on_wire a ≡ answer_on_wire b → a.status ≡ b.status
unfolding answer_on_wire
status_on_wire a b e = ap (λ (l : List ℕ). get_or l 1 0) e

module _ (h last : Board) (s : Since) (now : AsDefined h s) (b : ℕ) (end : AsDefined last (after s (byte b))) (m : Message) (more : List Message)
    (finished : finished_by s.bytes b ≡ m ∷ more) where
  pub finished_exactly : SumExactly m h last
  finished_exactly =
      record {
        only = λ told.
            sum_only s.gate m
            (status_on_wire (answered s.gate m).answer sum_answer
            (append_cancel_left h.answers _ _ (sym (answers_then h last s now b end m more finished) ∙ told)));
        always = λ wrong. only_said h last s now b end m more finished sum_wrong [] (sum_refused_lem (gate_in h) m wrong);
      }
