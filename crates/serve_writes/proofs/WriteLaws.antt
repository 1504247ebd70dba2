-- What a write answers and leaves: its status alone, and the memory with its range stored where nothing refuses it.
use mathlib.Core.Path.{◌≡◌, refl, sym, ap, ◌∙◌}
use mathlib.Core.List.{List, []}
use Prim.Native.Nat.{ℕ, ◌+◌, ◌-◌}
use native.Mathlib.Omega.{arith}
use borrow.Author.Tests.{not-false}
use lib.ListN.{take, drop}
use Rattle.codes_table.specs.declared.statuses.Status.{Status}
use Rattle.codes_table.specs.Statuses.{status_number}
use Rattle.codes_table.proofs.Outcomes.{never_done}
use Rattle.document.specs.Numbers.{done}
use Rattle.document.specs.Fields.{size_field, address_field, data_field, mask_field}
use Rattle.document.specs.Gate.{Gate, Outcome, fresh}
use Rattle.document.specs.Refusals.{first_of, write_lines}
use Rattle.document.specs.Commands.{unless}
use Rattle.document.specs.declared.Service.{Service}
use Rattle.document_outcomes.proofs.Firsts.{none_applies, unless_refused, unless_none}
use Rattle.document_outcomes.proofs.Permitted.{written_variables}
use Rattle.serve_fields.specs.declared.Fields.{Fields}
use Rattle.serve_fields.specs.Found.{own_lines, AreFields}
use Rattle.serve_writes.specs.WriteStatus.{permission_lines, write_status, IsWritten, IsUnwritten}
use Rattle.serve_writes.specs.Wrote.{Wrote}
use Rattle.serve_fields.proofs.Behind.{own_first, first_behind}

-- ---- the parts of the message that are handed on

module _ (s : Service) (body : List ℕ) (n : ℕ) (b : Fields) (found : AreFields s body n b) where
  pub values_are : take (b.place + b.size - b.place) (drop b.place body) ≡ data_field s body
  values_are =
      let width : b.place + b.size - b.place ≡ size_field s body = omega (arith, found.size) in
      λ i. take (width i) (drop (found.place i) body)

  pub masks_are : take (b.place + b.size + b.size - (b.place + b.size)) (drop (b.place + b.size) body) ≡ mask_field s body
  masks_are =
      let width : b.place + b.size + b.size - (b.place + b.size) ≡ size_field s body = omega (arith, found.size) in
      λ i. take (width i) (drop (found.place i + found.size i) body)

-- ---- a status, from the fields or from the range

module _ (s : Service) (body : List ℕ) (n : ℕ) where
  pub unwritten_by_fields : (status : Status) → status_number status ≡ first_of (own_lines s body n) → IsUnwritten s body n status
  unwritten_by_fields status said = λ g. own_first s body n status (permission_lines g (address_field s body) (size_field s body)) said

  pub unwritten_by_range : (status : Status) (b : Fields) → AreFields s body n b → ((g : Gate) → status_number status ≡ write_status g b) → IsUnwritten s body n status
  unwritten_by_range status b found said = λ g. said g ∙ first_behind s body n b (permission_lines g) found

  pub is_written : (b : Fields) → AreFields s body n b → ((g : Gate) → done ≡ write_status g b) → IsWritten s body n b
  is_written b found right =
      let none : (g : Gate) → first_of (write_lines g s body n) ≡ done = λ g. sym (right g ∙ first_behind s body n b (permission_lines g) found) in
      let may = (none_applies (write_lines (fresh []) s body n) (refl, refl, (refl, refl, (refl, refl, tt))) (none (fresh []))).1.1.0 in
      record {
        found = found;
        unrefused = none;
        inside = omega (arith, found.address, found.size, written_variables (fresh []) (address_field s body) (size_field s body) (not-false _ may));
      }

  -- ---- what is left

  pub wrote_refused : (status : Status) (g : Gate) (o : Outcome) (memory : List ℕ) → g.memory ≡ memory → IsUnwritten s body n status
      → Wrote (unless g (write_lines g s body n) o) (status_number status) memory
  wrote_refused status g o memory same first =
      let says = unless_refused g (write_lines g s body n) o (λ e. never_done status (first g ∙ e)) in
      record {
        answer = ap (λ (q : Outcome). q.answer) says ∙ (λ i. record { status = sym (first g) i; body = [] });
        memory = sym same ∙ sym (ap (λ (q : Outcome). q.gate.memory) says);
      }

  pub wrote_done : (b : Fields) → IsWritten s body n b → (g : Gate) (o : Outcome) (after : List ℕ) → o.answer ≡ record { status = done; body = [] } → after ≡ o.gate.memory
      → Wrote (unless g (write_lines g s body n) o) done after
  wrote_done b written g o after silent left =
      let carried = unless_none g (write_lines g s body n) o (written.unrefused g) in
      record {
        answer = ap (λ (q : Outcome). q.answer) carried ∙ silent;
        memory = left ∙ sym (ap (λ (q : Outcome). q.gate.memory) carried);
      }
