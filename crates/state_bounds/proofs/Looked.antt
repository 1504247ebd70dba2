-- Definitions in a block, looked at in one pass: the first is outside, or the rest decides.
use mathlib.Core.Path.{◌≡◌, refl, sym, ap, ◌∙◌}
use mathlib.Core.Bool.{Bool, cond, true, false, not, ◌||◌, and-false}
use mathlib.Core.List.{List, [], ◌∷◌}
use Prim.Native.Nat.{ℕ, ◌+◌, ◌-◌, ◌*◌, ◌<◌}
use native.Mathlib.Omega.{arith}
use lib.ListN.{get_or, drop}
use lib.Dec.{eqb}
use borrow.Author.Tests.{eq-eqb, ne_eqb}
use Rattle.document.specs.Areas.{bytes_at}
use Rattle.document.specs.Values.{number}
use Rattle.document.specs.declared.Variable.{Variable}
use Rattle.document.specs.Variables.{any_size_zero, set_size, definitions_in}
use Rattle.variables_list.specs.State.{up_to}
use Rattle.bytes_fields.proofs.Definitions.{definitions_first}
use Rattle.state_bounds.specs.Measured.{are_within, measured}
use Rattle.std.specs.Option.{is_some}
use Rattle.document.proofs.Cases.{split}
use Rattle.std.proofs.Common.{Some, None}

-- a definition in front of others
module _ (limit address size : ℕ) (vs : List Variable) where
  pub within_zero : size ≡ 0 → are_within limit (record { address = address; size = size } ∷ vs) ≡ false
  unfolding are_within
  within_zero e = rw (eq-eqb size 0 e)

  pub within_outside : up_to limit address size ≡ false → are_within limit (record { address = address; size = size } ∷ vs) ≡ false
  unfolding are_within
  within_outside e = rw e (and-false (not (eqb size 0 || any_size_zero vs)))

  pub within_more : (size ≡ 0 → ⊥) → up_to limit address size ≡ true
      → are_within limit (record { address = address; size = size } ∷ vs) ≡ are_within limit vs
  unfolding are_within
  within_more n e = rw (ne_eqb size 0 n, e)

-- a turn: the definition at this place is outside, or the rest decides
module _ (part : List ℕ) (limit from count k : ℕ) (some : k < count) (size address : ℕ)
    (es : size ≡ get_or part (from + k * 5) 0) (ea : address ≡ number (bytes_at part (from + k * 5 + 1) 4)) where
  abbrev pub behind : ℕ → List Variable
  behind n = definitions_in true (count - n) (drop (from + n * 5) part)

  first : behind k ≡ record { address = address; size = size } ∷ behind (k + 1)
  first =
      let left : count - k - 1 ≡ count - (k + 1) = omega arith in
      let next : from + k * 5 + 5 ≡ from + (k + 1) * 5 = omega arith in
      definitions_first part (from + k * 5) (count - k) size address (omega arith) es ea
      ∙ (λ i. record { address = address; size = size } ∷ definitions_in true (left i) (drop (next i) part))

  pub turn_zero : size ≡ 0 → are_within limit (behind k) ≡ false
  turn_zero e = ap (are_within limit) first ∙ within_zero limit address size (behind (k + 1)) e

  pub turn_outside : up_to limit address size ≡ false → are_within limit (behind k) ≡ false
  turn_outside e = ap (are_within limit) first ∙ within_outside limit address size (behind (k + 1)) e

  pub turn_within : (size ≡ 0 → ⊥) → up_to limit address size ≡ true → are_within limit (behind (k + 1)) ≡ are_within limit (behind k)
  turn_within n e = sym (ap (are_within limit) first ∙ within_more limit address size (behind (k + 1)) n e)

  pub turn_size : set_size (behind k) ≡ size + set_size (behind (k + 1))
  turn_size = ap set_size first

pub none_within : (limit : ℕ) → are_within limit [] ≡ true
unfolding are_within
none_within limit = refl

-- the end
module _ (limit : ℕ) (vs : List Variable) where
  pub measured_outside : are_within limit vs ≡ false → None ≡ measured limit vs
  measured_outside e = sym (rw e refl)

  pub measured_within : (sum : ℕ) → are_within limit vs ≡ true → sum ≡ set_size vs → Some sum ≡ measured limit vs
  measured_within sum e s = sym (rw (e, ← s) refl)

-- what was measured
module _ (limit : ℕ) (vs : List Variable) where
  pub some_measured : (size : ℕ) → Some size ≡ measured limit vs → (are_within limit vs ≡ true) × (size ≡ set_size vs)
  some_measured size = by_within (are_within limit vs)
    where
      by_within : (t : Bool) → Some size ≡ cond t (Some (set_size vs)) None → (t ≡ true) × (size ≡ set_size vs)
      by_within true e = (refl, cc)
      by_within false e = let none : ⊥ = cc in absurd none

  pub none_measured : None ≡ measured limit vs → are_within limit vs ≡ false
  none_measured = by_within (are_within limit vs)
    where
      by_within : (t : Bool) → None ≡ cond t (Some (set_size vs)) None → t ≡ false
      by_within true e = let none : ⊥ = cc in absurd none
      by_within false e = refl

  pub is_some_measured : is_some (measured limit vs) ≡ are_within limit vs
  is_some_measured = split (are_within limit vs) (λ y. rw y refl) (λ n. rw n refl)
