-- A survey of definitions, one after the other.
use mathlib.Core.Path.{◌≡◌}
use mathlib.Core.Bool.{◌&&◌, ◌||◌, or-false, and-true, or_assoc, and_assoc}
use mathlib.Core.List.{List, [], ◌∷◌}
use Prim.Native.Nat.{ℕ, ◌+◌}
use native.Mathlib.Nat.{add-zero, zero-add}
use native.Mathlib.Omega.{arith}
use lib.Dec.{eqb}
use Rattle.document.specs.declared.Variable.{Variable}
use Rattle.document.specs.Variables.{any_size_zero, all_may, set_size}
use Rattle.variables_list.specs.State.{up_to}
use Rattle.variables_surveys.specs.declared.Surveyed.{Surveyed}
use Rattle.variables_surveys.specs.Survey.{surveyed, looked_at}

-- what was seen of some, with those that are left
abbrev pub joined : ℕ → Surveyed → List Variable → Surveyed
joined limit seen vs =
    record {
      zero = seen.zero || any_size_zero vs;
      within = seen.within && all_may (up_to limit) vs;
      size = seen.size + set_size vs;
    }

-- nothing is seen before the first
pub joined_first : (limit : ℕ) (vs : List Variable) → joined limit (surveyed limit []) vs ≡ surveyed limit vs
joined_first limit vs =
    λ i. record { zero = any_size_zero vs; within = all_may (up_to limit) vs; size = zero-add (set_size vs) i }

module _ (limit : ℕ) (seen : Surveyed) where
  -- the first of those that are left is looked at
  pub joined_next : (v : Variable) (vs : List Variable) → joined limit (looked_at limit seen v) vs ≡ joined limit seen (v ∷ vs)
  joined_next v vs =
      let more : (seen.size + v.size) + set_size vs ≡ seen.size + (v.size + set_size vs) = omega arith in
      λ i.
      record {
        zero = or_assoc seen.zero (eqb v.size 0) (any_size_zero vs) i;
        within = and_assoc seen.within (up_to limit v.address v.size) (all_may (up_to limit) vs) i;
        size = more i;
      }

  pub joined_none : joined limit seen [] ≡ seen
  joined_none =
      λ i. record { zero = or-false seen.zero i; within = and-true seen.within i; size = add-zero seen.size i }
