-- The tables of a list, pair by pair: a bad one makes it bad, behind a good one the rest decides.
use mathlib.Core.Path.{◌≡◌, refl, sym, ap, ◌∙◌}
use mathlib.Core.Bool.{Bool, true, ◌&&◌}
use mathlib.Core.List.{List, [], ◌∷◌, ◌++◌}
use Prim.Native.Nat.{ℕ, ◌<◌}
use native.Mathlib.Omega.{arith}
use lib.ListN.{length}
use Rattle.document.specs.Areas.{bytes_at}
use Rattle.document.specs.Values.{number}
use Rattle.document.specs.Tables.{pair_size, tables_in, is_table_good, are_tables_good}

-- an address and a size, 2 bytes each
first_pair : (pair rest : List ℕ) → length pair ≡ pair_size
    → tables_in (pair ++ rest) ≡ record { address = number (bytes_at pair 0 2); size = number (bytes_at pair 2 2) } ∷ tables_in rest
first_pair [] rest h = let none : ⊥ = omega arith in absurd none
first_pair (a ∷ []) rest h = let none : ⊥ = omega arith in absurd none
first_pair (a ∷ b ∷ []) rest h = let none : ⊥ = omega arith in absurd none
first_pair (a ∷ b ∷ c ∷ []) rest h = let none : ⊥ = omega arith in absurd none
first_pair (a ∷ b ∷ c ∷ d ∷ []) rest h = refl
first_pair (a ∷ b ∷ c ∷ d ∷ e ∷ more) rest h = let none : ⊥ = omega arith in absurd none

no_pair : (bs : List ℕ) → length bs < pair_size → tables_in bs ≡ []
no_pair [] h = refl
no_pair (a ∷ []) h = refl
no_pair (a ∷ b ∷ []) h = refl
no_pair (a ∷ b ∷ c ∷ []) h = refl
no_pair (a ∷ b ∷ c ∷ d ∷ rest) h = let none : ⊥ = omega arith in absurd none

module _ (memory : List ℕ) where
  abbrev pub good : List ℕ → Bool
  good list = are_tables_good memory (tables_in list)

  pub none_left : (list : List ℕ) → length list < pair_size → good list ≡ true
  none_left list h = ap (are_tables_good memory) (no_pair list h)

  pub first : (list pair rest : List ℕ) (t : Bool) (address size : ℕ) → list ≡ pair ++ rest → length pair ≡ pair_size
      → address ≡ number (bytes_at pair 0 2) → size ≡ number (bytes_at pair 2 2)
      → t ≡ is_table_good memory (record { address = address; size = size }) → good list ≡ t && good rest
  first list pair rest t address size e long ea es here =
      ap good e
      ∙ ap (are_tables_good memory) (first_pair pair rest long)
      ∙ (λ i. is_table_good memory (record { address = sym ea i; size = sym es i }) && good rest)
      ∙ (λ i. sym here i && good rest)
