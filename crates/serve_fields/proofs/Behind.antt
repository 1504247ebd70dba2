-- Behind the lines of the fields themselves stand those that ask for the range: the first of all of them that applies.
use mathlib.Core.Path.{◌≡◌, refl, sym, ◌∙◌}
use mathlib.Core.List.{List, ◌++◌}
use Prim.Native.Nat.{ℕ}
use borrow.Author.Tests.{eq-eqb, ne_eqb}
use Rattle.codes_table.specs.Statuses.{status_number}
use Rattle.codes_table.specs.declared.statuses.Status.{Status}
use Rattle.codes_table.proofs.Outcomes.{never_done}
use Rattle.document.specs.Numbers.{done}
use Rattle.document.specs.Fields.{size_field, address_field}
use Rattle.document.specs.Refusals.{Refusal, first_of}
use Rattle.document.specs.declared.Service.{Service}
use Rattle.document_outcomes.proofs.Firsts.{first_append}
use Rattle.serve_fields.specs.declared.Fields.{Fields}
use Rattle.serve_fields.specs.Found.{own_lines, AreFields}

module _ (s : Service) (body : List ℕ) (n : ℕ) where
  -- what the fields themselves refuse
  pub own_first : (status : Status) (rest : List Refusal) → status_number status ≡ first_of (own_lines s body n) → status_number status ≡ first_of (own_lines s body n ++ rest)
  own_first status rest said =
      sym (first_append (own_lines s body n) rest (refl, refl, (refl, refl, tt))
      ∙ rw (ne_eqb (first_of (own_lines s body n)) done (λ e. never_done status (said ∙ e))) (sym said))

  -- what they do not refuse is refused by the lines behind them alone
  pub first_behind : (b : Fields) (rest : ℕ → ℕ → List Refusal) → AreFields s body n b →
      first_of (rest b.address b.size) ≡ first_of (own_lines s body n ++ rest (address_field s body) (size_field s body))
  first_behind b rest found =
      (λ i. first_of (rest (found.address i) (found.size i)))
      ∙ sym (first_append (own_lines s body n) (rest (address_field s body) (size_field s body)) (refl, refl, (refl, refl, tt))
      ∙ rw (eq-eqb (first_of (own_lines s body n)) done found.unrefused) refl)
