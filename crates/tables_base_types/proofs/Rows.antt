-- A row of pairs, read by its codes and by its sizes.
use mathlib.Core.Path.{◌≡◌, refl}
use mathlib.Core.List.{List, [], ◌∷◌, map}
use Prim.Native.Nat.{ℕ, zero, suc, ◌<◌}
use native.Mathlib.Omega.{arith}
use lib.ListN.{length, get_or}
use Rattle.std.specs.Prelude.{slice_index_or}
use Rattle.document.specs.BaseTypes.{BaseType, base_types}

abbrev pub rows_of : List (ℕ × ℕ)
rows_of = map (λ (t : BaseType). (t.code, t.size)) base_types

pub code_at : (rows : List (ℕ × ℕ)) (i : ℕ) (d : ℕ × ℕ) → i < length rows → (slice_index_or rows i d).0 ≡ get_or (map (λ r. r.0) rows) i 0
code_at [] i d h = let z : ⊥ = omega arith in absurd z
code_at (r ∷ rows) zero d h = refl
code_at (r ∷ rows) (suc i) d h = code_at rows i d (omega arith)

pub size_at : (rows : List (ℕ × ℕ)) (i : ℕ) (d : ℕ × ℕ) → i < length rows → (slice_index_or rows i d).1 ≡ get_or (map (λ r. r.1) rows) i 0
size_at [] i d h = let z : ⊥ = omega arith in absurd z
size_at (r ∷ rows) zero d h = refl
size_at (r ∷ rows) (suc i) d h = size_at rows i d (omega arith)
