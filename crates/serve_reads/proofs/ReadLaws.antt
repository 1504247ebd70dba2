-- What a read answers: its status alone, or the bytes of its range.
use mathlib.Core.Path.{◌≡◌, refl, sym, ap, ◌∙◌}
use mathlib.Core.List.{List, []}
use Prim.Native.Nat.{ℕ, ◌+◌}
use native.Mathlib.Omega.{arith}
use borrow.Author.Tests.{ltb-false, leb-true, not-false}
use Rattle.codes_table.specs.declared.statuses.Status.{Status}
use Rattle.codes_table.specs.Statuses.{status_number}
use Rattle.codes_table.proofs.Outcomes.{never_done}
use Rattle.document.specs.Numbers.{most_data, done}
use Rattle.document.specs.Areas.{memory_end, bytes_at}
use Rattle.document.specs.Fields.{size_field, address_field}
use Rattle.document.specs.Gate.{Gate, Outcome}
use Rattle.document.specs.Refusals.{first_of, read_lines}
use Rattle.document.specs.Commands.{read_answer, served}
use Rattle.document.specs.declared.Operation.TheVariants.{Read}
use Rattle.document.specs.declared.Service.{Service}
use Rattle.document_outcomes.specs.Known.{known_as}
use Rattle.document_outcomes.proofs.Firsts.{NoneApplies, none_applies, unless_refused, unless_none}
use Rattle.serve_fields.specs.declared.Fields.{Fields}
use Rattle.serve_fields.specs.Found.{AreFields}
use Rattle.serve_fields.proofs.Behind.{first_behind}
use Rattle.serve_reads.specs.ReadStatus.{range_lines, read_status, IsRead}

module _ (s : Service) (body : List ℕ) where
  pub read_refused : (g : Gate) (status : Status) → status_number status ≡ first_of (read_lines s body)
      → record { status = status_number status; body = [] } ≡ (served g (known_as Read s) body).answer
  unfolding served
  read_refused g status said =
      (λ i. record { status = said i; body = [] })
      ∙ sym (ap (λ (o : Outcome). o.answer) (unless_refused g (read_lines s body) (read_answer g s body) (λ e. never_done status (said ∙ e))))

  module _ (b : Fields) where
    pub read_done : (g : Gate) → IsRead s body b → record { status = done; body = bytes_at g.memory b.address b.size } ≡ (served g (known_as Read s) body).answer
    unfolding served
    read_done g read =
        (λ i. record { status = done; body = bytes_at g.memory (read.address i) (read.size i) })
        ∙ sym (ap (λ (o : Outcome). o.answer) (unless_none g (read_lines s body) (read_answer g s body) read.unrefused))

    pub is_read : AreFields s body 0 b → read_status b ≡ done → IsRead s body b
    is_read found right =
        let none : first_of (read_lines s body) ≡ done = sym (first_behind s body 0 b range_lines found) ∙ right in
        let clear : NoneApplies (read_lines s body) = none_applies (read_lines s body) (refl, refl, (refl, refl, (refl, refl, (refl, refl, tt)))) none in
        record {
          unrefused = none;
          address = found.address;
          size = found.size;
          few = omega (arith, found.size, ltb-false most_data (size_field s body) clear.1.1.0);
          inside = omega (arith, found.address, found.size, leb-true (address_field s body + size_field s body) memory_end (not-false _ clear.1.1.1.0));
        }
