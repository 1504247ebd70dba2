-- A service's outcome: refused, the gate stays and a known status is said; else the gate is changed as its operation says.
use mathlib.Core.Path.{◌≡◌, refl, sym, ap, subst}
use mathlib.Core.Bool.{true, and-false}
use mathlib.Core.List.{List, []}
use Prim.Native.Nat.{ℕ}
use borrow.Author.Tests.{eqb-true, eqb-false}
use lib.Dec.{eqb}
use Rattle.document.specs.Numbers.{done, is_status, is_error}
use Rattle.document.specs.Stores.{stored, mask_stored}
use Rattle.document.specs.Fields.{size_field, address_field, data_field, mask_field}
use Rattle.document.specs.Gate.{Gate}
use Rattle.document.specs.Permission.{may_be_written}
use Rattle.document.specs.Refusals.{served_lines, first_of}
use Rattle.document.specs.Commands.{served}
use Rattle.document.specs.AnswerWriter.{answer_formed}
use Rattle.document.specs.declared.Service.{Service}
use Rattle.document.proofs.Cases.{split, neither}
use Rattle.document_outcomes.specs.Changes.{Change, change_of, changed, Accepted, Refused, leaves_memory}
use Rattle.document_outcomes.specs.Changes.Change.{nothing, store, masked_store, scope_set_up, recorder_prepare_and_start, recorder_start, recorder_stop, command_sent}
use Rattle.document_outcomes.proofs.Firsts.{first_known}
use Rattle.document_outcomes.proofs.Carried.{Carried, carried}

-- a known status can stand alone
pub alone_formed : (status : ℕ) → is_status status ≡ true → answer_formed (record { status = status; body = [] }) ≡ true
alone_formed status known = rw (known, and-false (is_error status)) refl

module _ (g : Gate) (s : Service) (body : List ℕ) where
  abbrev change : Change
  change = change_of s.operation

  all : Carried s.operation g s body
  all = carried s.operation g s body

  pub served_either : (P : Gate → Type 0) → (Refused change g s body → P g) → (Accepted change g s body → P (changed change g s body))
      → P (served g s body).gate
  unfolding served
  served_either P same differs =
      split (eqb (first_of (served_lines g s body)) done)
      (λ none. rw none (subst P (sym all.gate) (differs (all.accepted (eqb-true _ _ none)))))
      (λ some. rw some (same (all.refused (eqb-false _ _ some))))

  pub served_gate : (P : Gate → Type 0) → P g → (Accepted change g s body → P (changed change g s body)) → P (served g s body).gate
  served_gate P same differs = served_either P (λ refused. same) differs

  pub served_formed : answer_formed (served g s body).answer ≡ true
  unfolding served
  served_formed =
      split (eqb (first_of (served_lines g s body)) done)
      (λ none. rw none (all.answer (eqb-true _ _ none)).formed)
      (λ some. rw some (alone_formed (first_of (served_lines g s body)) (first_known (served_lines g s body) all.known)))

  -- ---- what is left as it was

  pub served_same : change ≡ nothing → (served g s body).gate ≡ g
  served_same e = served_gate (λ (q : Gate). q ≡ g) refl (λ accepted. ap (λ (c : Change). changed c g s body) e)

  memory_kept : (c : Change) → leaves_memory c ≡ true → (changed c g s body).memory ≡ g.memory
  memory_kept nothing leaves = refl
  memory_kept store leaves = neither leaves
  memory_kept masked_store leaves = neither leaves
  memory_kept scope_set_up leaves = refl
  memory_kept recorder_prepare_and_start leaves = refl
  memory_kept recorder_start leaves = refl
  memory_kept recorder_stop leaves = refl
  memory_kept command_sent leaves = refl

  pub served_memory_kept : leaves_memory change ≡ true → (served g s body).gate.memory ≡ g.memory
  served_memory_kept leaves = served_gate (λ (q : Gate). q.memory ≡ g.memory) refl (λ accepted. memory_kept change leaves)

  -- ---- what holds of the memory, and of it with a permitted range stored, holds of the memory that is left

  module _ (P : List ℕ → Type 0) (same : P g.memory)
      (plain : may_be_written g (address_field s body) (size_field s body) ≡ true → P (stored g.memory (address_field s body) (data_field s body)))
      (masked : may_be_written g (address_field s body) (size_field s body) ≡ true → P (mask_stored g.memory (address_field s body) (data_field s body) (mask_field s body))) where
    pub memory_changed : (c : Change) → Accepted c g s body → P (changed c g s body).memory
    memory_changed nothing accepted = same
    memory_changed store accepted = plain accepted
    memory_changed masked_store accepted = masked accepted
    memory_changed scope_set_up accepted = same
    memory_changed recorder_prepare_and_start accepted = same
    memory_changed recorder_start accepted = same
    memory_changed recorder_stop accepted = same
    memory_changed command_sent accepted = same

    pub served_memory : P (served g s body).gate.memory
    served_memory = served_gate (λ (q : Gate). P q.memory) same (memory_changed change)
