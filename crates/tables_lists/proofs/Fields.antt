-- An entry by the two of its fields that count, where they stand in memory.
use mathlib.Core.Path.{◌≡◌, refl, sym, ap, ◌∙◌}
use mathlib.Core.Bool.{◌&&◌, ◌||◌}
use mathlib.Core.List.{List, [], ◌∷◌}
use Prim.Native.Nat.{ℕ, zero, suc, ◌+◌, ◌/◌, ◌≤◌}
use native.Mathlib.Omega.{arith}
use lib.Dec.{eqb, ltb}
use lib.ListN.{take, drop}
use lib.Seq.{take-take, drop-drop}
use Rattle.document.specs.Areas.{memory_end, bytes_at}
use Rattle.document.specs.Values.{number}
use Rattle.document.specs.Tables.{entry_size, base_size, size_of, is_entry_good}

-- bytes that lie within the first ones of a list
front : (k n size : ℕ) (bytes : List ℕ) → k + n ≤ size → bytes_at (take size bytes) k n ≡ bytes_at bytes k n
front zero n size bytes h = take-take n size bytes (omega arith)
front (suc k) n zero bytes h = let none : ⊥ = omega arith in absurd none
front (suc k) n (suc size) [] h = refl
front (suc k) n (suc size) (b ∷ bytes) h = front k n size bytes (omega arith)

module _ (memory : List ℕ) (at : ℕ) where
  field : (k : ℕ) → k + 2 ≤ entry_size → number (bytes_at memory (at + k) 2) ≡ number (bytes_at (bytes_at memory at entry_size) k 2)
  field k h = ap (λ (l : List ℕ). number (take 2 l)) (sym (drop-drop k at memory)) ∙ ap number (sym (front k 2 entry_size (drop at memory) h))

  pub as_read : (type base info : ℕ) → type ≡ number (bytes_at memory (at + 2) 2) → base ≡ base_size memory type
      → info ≡ number (bytes_at memory (at + 6) 2)
      → ltb type memory_end && (eqb base 0 || eqb (info / 4) base) ≡ is_entry_good memory (bytes_at memory at entry_size)
  as_read type base info et eb ei =
      (λ i. ltb type memory_end && (eqb (eb i) 0 || eqb ((ei ∙ field 6 (omega arith)) i / 4) (eb i)))
      ∙ ap (λ (k : ℕ). ltb k memory_end && (eqb (base_size memory k) 0 || eqb (size_of (bytes_at memory at entry_size)) (base_size memory k))) (et ∙ field 2 (omega arith))
