-- The answer to a message, and the gate after it, by what its service does.
use mathlib.Core.Path.{◌≡◌, refl, sym, subst}
use mathlib.Core.Bool.{true, false}
use mathlib.Core.List.{List}
use Prim.Native.Nat.{ℕ}
use borrow.Author.Tests.{eqb-true, eq-eqb}
use lib.Dec.{eqb, ltb}
use lib.ListN.{length}
use Rattle.document.specs.Numbers.{most_data, done, is_status, is_error}
use Rattle.document.specs.Message.{Message, sum_right}
use Rattle.document.specs.Stores.{stored, mask_stored}
use Rattle.document.specs.Services.{service_of}
use Rattle.document.specs.Fields.{size_field, address_field, data_field, mask_field}
use Rattle.document.specs.Gate.{Gate}
use Rattle.document.specs.Permission.{may_be_written}
use Rattle.document.specs.Refusals.{table, served_lines, first_of, refusal}
use Rattle.document.specs.Commands.{served, answered}
use Rattle.document.specs.AnswerWriter.{answer_formed}
use Rattle.document.specs.declared.Service.{Service}
use Rattle.document.proofs.Cases.{split}
use Rattle.document_outcomes.specs.Changes.{Change, change_of, changed, Accepted}
use Rattle.document_outcomes.proofs.Firsts.{Known, first_known, none_applies}
use Rattle.document_outcomes.proofs.Carried.{Carried, carried}
use Rattle.document_outcomes.proofs.Served.{alone_formed, memory_changed}

module _ (g : Gate) (m : Message) where
  abbrev service : Service
  service = service_of m.command

  abbrev change : Change
  change = change_of service.operation

  all : Carried service.operation g service m.body
  all = carried service.operation g service m.body

  known : Known (table g m)
  known = (refl, refl, (refl, refl, all.known))

  -- a message whose sum and length are right is answered as its service says
  pub answered_served : sum_right m ≡ true → ltb most_data (length m.body) ≡ false → answered g m ≡ served g service m.body
  unfolding answered refusal served
  answered_served right short = rw (right, short) refl

  none_of_lines : refusal g m ≡ done → first_of (served_lines g service m.body) ≡ done
  unfolding refusal
  none_of_lines none =
      let two = none_applies (table g m) known none in
      rw (two.0, two.1.0) at none

  -- ---- accepted or refused

  pub accepted_gate : refusal g m ≡ done → (answered g m).gate ≡ changed change g service m.body
  unfolding answered
  accepted_gate none = rw (eq-eqb (refusal g m) done none) all.gate

  pub accepted : refusal g m ≡ done → Accepted change g service m.body
  accepted none = all.accepted (none_of_lines none)

  pub accepted_right : refusal g m ≡ done → is_error (answered g m).answer.status ≡ false
  unfolding answered
  accepted_right none = rw (eq-eqb (refusal g m) done none) (all.answer (none_of_lines none)).success

  pub refused_gate : eqb (refusal g m) done ≡ false → (answered g m).gate ≡ g
  unfolding answered
  refused_gate some = rw some refl

  pub answered_gate : (P : Gate → Type 0) → P g → (Accepted change g service m.body → P (changed change g service m.body)) → P (answered g m).gate
  answered_gate P same differs =
      split (eqb (refusal g m) done)
      (λ none. subst P (sym (accepted_gate (eqb-true _ _ none))) (differs (accepted (eqb-true _ _ none))))
      (λ some. subst P (sym (refused_gate some)) same)

  -- ---- every answer can be formed

  refusal_known : is_status (refusal g m) ≡ true
  unfolding refusal
  refusal_known = first_known (table g m) known

  pub answered_formed : answer_formed (answered g m).answer ≡ true
  unfolding answered
  answered_formed =
      split (eqb (refusal g m) done)
      (λ none. rw none (all.answer (none_of_lines (eqb-true _ _ none))).formed)
      (λ some. rw some (alone_formed (refusal g m) refusal_known))

  -- ---- what holds of the memory, and of it with a permitted range stored, holds of the memory that is left

  pub answered_memory : (P : List ℕ → Type 0) → P g.memory
      → (may_be_written g (address_field service m.body) (size_field service m.body) ≡ true → P (stored g.memory (address_field service m.body) (data_field service m.body)))
      → (may_be_written g (address_field service m.body) (size_field service m.body) ≡ true → P (mask_stored g.memory (address_field service m.body) (data_field service m.body) (mask_field service m.body)))
      → P (answered g m).gate.memory
  answered_memory P same plain masked =
      answered_gate (λ (q : Gate). P q.memory) same (memory_changed g service m.body P same plain masked change)
