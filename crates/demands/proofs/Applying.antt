-- Application commands along a run: what is said while one is pending.
use mathlib.Core.Path.{◌≡◌, refl, sym, ap, ◌∙◌}
use mathlib.Core.Bool.{true}
use mathlib.Core.List.{List, ◌∷◌, ◌++◌}
use Prim.Native.Nat.{ℕ}
use Rattle.document.specs.Message.{Message, finished_by}
use Rattle.document.specs.Answer.{answer_on_wire}
use Rattle.document.specs.Application.Application.{waiting}
use Rattle.document.specs.Gate.{Gate, Outcome, says}
use Rattle.document.specs.Commands.{answered}
use Rattle.document.specs.Happenings.{Since, after_messages, after}
use Rattle.document.specs.Happenings.Happening.{byte}
use Rattle.document.specs.Blocks.{answers_on_wire}
use Rattle.document_outcomes.specs.Sending.{sends}
use Rattle.laws_happenings.proofs.Blocks.{wire_one}
use Rattle.document_outcomes.proofs.Sending.{application_after}
use Rattle.laws_happenings.specs.Bytes.{with_byte}
use Rattle.demands.specs.Board.{Board, gate_in}
use Rattle.demands.specs.AsDefined.{AsDefined}
use Rattle.demands.specs.Applying.{OnlySaid}

-- the byte that finishes a message, of which this is what is said
module _ (h last : Board) (s : Since) (now : AsDefined h s) (b : ℕ) (end : AsDefined last (after s (byte b))) (m : Message) (more : List Message)
    (finished : finished_by s.bytes b ≡ m ∷ more) where
  abbrev grown : Since
  grown = with_byte s b

  gate_then : gate_in last ≡ (answered s.gate m).gate
  gate_then = end.gate ∙ ap (λ (ms : List Message). (after_messages grown ms).gate) finished

  pub answers_then : last.answers ≡ h.answers ++ answer_on_wire (answered s.gate m).answer
  answers_then =
      end.answers
      ∙ ap (λ (ms : List Message). answers_on_wire (after_messages grown ms).answers) finished
      ∙ wire_one s.answers (answered s.gate m).answer
      ∙ ap (λ (l : List ℕ). l ++ answer_on_wire (answered s.gate m).answer) (sym now.answers)

  pub only_said : (status : ℕ) (body : List ℕ) → answered (gate_in h) m ≡ says (gate_in h) status body → OnlySaid (record { status = status; body = body }) h last
  only_said status body is =
      let so : answered s.gate m ≡ says (gate_in h) status body = ap (λ (g : Gate). answered g m) (sym now.gate) ∙ is in
      record {
        answers = answers_then ∙ ap (λ (o : Outcome). h.answers ++ answer_on_wire o.answer) so;
        gate = gate_then ∙ ap (λ (o : Outcome). o.gate) so;
      }

  -- an accepted 0x10: what waits then are its data
  pub sent_waits : sends (gate_in h) m ≡ true → (gate_in last).application ≡ waiting m.body
  sent_waits send =
      ap (λ (g : Gate). g.application) gate_then
      ∙ application_after s.gate m
      ∙ rw (ap (λ (g : Gate). sends g m) (sym now.gate) ∙ send) refl
