-- Definitions in a block, one behind the other, each read where it lies.
use mathlib.Core.Path.{◌≡◌, sym, ap, ◌∙◌}
use mathlib.Core.Bool.{true}
use mathlib.Core.List.{List, ◌∷◌}
use Prim.Native.Nat.{ℕ, suc, ◌+◌, ◌-◌, ◌<◌}
use native.Mathlib.Nat.{add-zero}
use native.Mathlib.Omega.{arith}
use lib.ListN.{get_or, drop}
use lib.Seq.{drop-drop, get_or-drop}
use Rattle.document.specs.Areas.{bytes_at}
use Rattle.document.specs.Values.{number}
use Rattle.document.specs.Variables.{definition_in, definitions_in}

module _ (block : List ℕ) (at : ℕ) where
  pub definition_here : definition_in true (drop at block) ≡ record { size = get_or block at 0; address = number (bytes_at block (at + 1) 4) }
  definition_here = rw (get_or-drop at block 0 0, add-zero at, drop-drop 1 at block)

  -- the first, of which size and address are read, and those behind it
  pub definitions_first : (left size address : ℕ) → 0 < left → size ≡ get_or block at 0 → address ≡ number (bytes_at block (at + 1) 4)
      → definitions_in true left (drop at block) ≡ record { address = address; size = size } ∷ definitions_in true (left - 1) (drop (at + 5) block)
  definitions_first left size address some es ea =
      let m : left ≡ suc (left - 1) = omega arith in
      ap (λ (n : ℕ). definitions_in true n (drop at block)) m
      ∙ (λ i. definition_here i ∷ definitions_in true (left - 1) (drop-drop 5 at block i))
      ∙ (λ i. record { size = sym es i; address = sym ea i } ∷ definitions_in true (left - 1) (drop (at + 5) block))
