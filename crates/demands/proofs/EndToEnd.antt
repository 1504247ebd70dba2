-- What a reader at the other end gives of the answer to a message.
use mathlib.Core.Path.{◌≡◌, sym, ap, subst, ◌∙◌}
use mathlib.Core.List.{List}
use Prim.Native.Nat.{ℕ}
use lib.ListN.{length, drop}
use lib.Seq.{drop-append_seam}
use Rattle.document.specs.Message.{Message}
use Rattle.document.specs.Answer.{answer_on_wire}
use Rattle.document.specs.Gate.{Gate, Outcome}
use Rattle.document.specs.Commands.{answered}
use Rattle.document_outcomes.proofs.Answered.{answered_formed}
use Rattle.laws_ends.specs.Exchange.{Expects, ReadBack}
use Rattle.laws_ends.proofs.Exchange.{read_back_lem}
use Rattle.demands.specs.Board.{Board, gate_in}
use Rattle.demands.specs.Fresh.{AnsweredFresh}
use Rattle.demands.specs.EndToEnd.{sent_since, EndToEnd}
use Rattle.demands.proofs.Wire.{wire_refused}

module _ (start before last : Board) (beside : Gate) (m : Message) (fresh : AnsweredFresh start before last beside m) (n : ℕ) where
  sent_is : sent_since start last ≡ answer_on_wire (answered (gate_in before) m).answer
  sent_is =
      ap (drop (length start.answers)) fresh.told ∙ drop-append_seam start.answers (answer_on_wire (answered (gate_in before) m).answer)

  pub answer_comes_back : Expects n (answered (gate_in before) m).answer → EndToEnd n (answered (gate_in before) m).answer start last
  answer_comes_back expects =
      record {
        wire = fresh.told;
        read =
            subst (λ (l : List ℕ). ReadBack n (answered (gate_in before) m).answer l) (sym sent_is)
            (read_back_lem n (answered (gate_in before) m).answer (answered_formed (gate_in before) m) expects);
        error = λ is. let wire = wire_refused (gate_in before) m in ap (λ (o : Outcome). o.answer.body) (wire.refused (wire.exactly is));
      }
