-- A search of the table, row by row: over all the document's rows it finds the document's size, by one computation for every code.
use mathlib.Core.Path.{◌≡◌, refl}
use mathlib.Core.Bool.{cond}
use mathlib.Core.List.{List, [], ◌∷◌, map}
use Prim.Native.Nat.{ℕ, ◌+◌, ◌<◌, ◌≤◌}
use native.Mathlib.Numerals.{add-one}
use lib.Dec.{eqb}
use lib.ListN.{length, get_or, drop, drop_of_length-le}
use lib.Seq.{drop-cons}
use borrow.Author.Tests.{eq-eqb, ne_eqb}
use Rattle.document.specs.BaseTypes.{BaseType, base_types, size_of_code}

abbrev pub codes : List ℕ
codes = map (λ (t : BaseType). t.code) base_types

abbrev pub sizes : List ℕ
sizes = map (λ (t : BaseType). t.size) base_types

-- the size beside the first of these codes that is the one looked for, or 0
abbrev size_beside : ℕ → List ℕ → List ℕ → ℕ
size_beside code [] ss = 0
size_beside code (c ∷ cs) [] = 0
size_beside code (c ∷ cs) (s ∷ ss) = cond (eqb code c) s (size_beside code cs ss)

-- what a search from row i on finds
unfoldable pub found : ℕ → ℕ → ℕ
found code i = size_beside code (drop i codes) (drop i sizes)

pub all_rows : (code : ℕ) → found code 0 ≡ size_of_code code
unfolding found size_of_code
all_rows code = refl

pub no_row : (code i : ℕ) → length codes ≤ i → found code i ≡ 0
unfolding found
no_row code i h = rw (drop_of_length-le codes {i = i} h)

module _ (code i : ℕ) (h : i < length codes) where
  pub hit : code ≡ get_or codes i 0 → found code i ≡ get_or sizes i 0
  unfolding found
  hit e = rw (drop-cons codes i 0 h, drop-cons sizes i 0 h, eq-eqb code (get_or codes i 0) e)

  pub miss : (code ≡ get_or codes i 0 → ⊥) → found code i ≡ found code (i + 1)
  unfolding found
  miss n = rw (add-one i, drop-cons codes i 0 h, drop-cons sizes i 0 h, ne_eqb code (get_or codes i 0) n)
