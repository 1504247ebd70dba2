-- Only the document's table refuses on the wire; and a check tells its number and nothing else.
use mathlib.Core.Path.{◌≡◌, refl, sym, ◌∙◌}
use mathlib.Core.Bool.{false, false≢true}
use mathlib.Core.List.{List, []}
use Prim.Native.Nat.{ℕ}
use borrow.Author.Tests.{ne_eqb}
use Rattle.document.specs.Numbers.{done, sum_wrong}
use Rattle.document.specs.Message.{Message, sum_right}
use Rattle.document.specs.Gate.{Gate, says}
use Rattle.document.specs.Refusals.{refusal}
use Rattle.document.specs.Commands.{answered}
use Rattle.document_outcomes.proofs.Answered.{accepted_right}
use Rattle.call_checks.specs.Promises.{Checked}
use Rattle.demands.specs.Refused.{CheckRefused, WireRefused}

pub check_refused : (block : List ℕ) (r : ℕ) → Checked block r → CheckRefused block r
check_refused block r promised = record { number = promised.result }

pub check_one_outcome : (block : List ℕ) (r s : ℕ) → Checked block r → Checked block s → r ≡ s
check_one_outcome block r s p q = p.result ∙ sym q.result

pub wire_refused : (g : Gate) (m : Message) → WireRefused g m
unfolding answered
wire_refused g m =
    record {
      refused = λ other. rw (ne_eqb (refusal g m) done other) refl;
      exactly = λ error none. false≢true (sym (accepted_right g m none) ∙ error);
    }

-- a wrong sum is the first thing that is looked at
pub sum_refused_lem : (g : Gate) (m : Message) → sum_right m ≡ false → answered g m ≡ says g sum_wrong []
unfolding answered refusal
sum_refused_lem g m wrong = rw wrong refl
