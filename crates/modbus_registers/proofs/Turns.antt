-- Registers turned round: how many bytes they are, and a turn of the loop, where what is left to store gives the whole.
use mathlib.Core.Path.{◌≡◌, refl}
use mathlib.Core.List.{List, [], ◌∷◌}
use Prim.Native.Nat.{ℕ, zero, suc, ◌+◌, ◌*◌, ◌<◌, ◌≤◌}
use native.Mathlib.Numerals.{add-one}
use native.Mathlib.Omega.{arith}
use lib.ListN.{length, get_or, set, drop}
use lib.Seq.{drop-cons}
use Rattle.document.specs.Stores.{stored}
use Rattle.document.specs.Registers.{turned}

pub stored_turn : (to from : List ℕ) (at i : ℕ) → i + 1 < length from
    → stored (set (set to (at + i) (get_or from (i + 1) 0)) (at + i + 1) (get_or from i 0)) (at + (i + 2)) (turned (drop (i + 2) from)) ≡ stored to (at + i) (turned (drop i from))
stored_turn to from at i h =
    let two : i + 2 ≡ suc (suc i) = omega arith in
    let behind : at + (i + 2) ≡ suc (suc (at + i)) = omega arith in
    rw (behind, two, add-one (at + i), add-one i, drop-cons from i 0 (omega arith), drop-cons from (suc i) 0 (omega arith))

-- less than a register is left
pub turned_ended : (from : List ℕ) (i : ℕ) → length from ≤ i + 1 → turned (drop i from) ≡ []
turned_ended [] zero h = refl
turned_ended [] (suc i) h = refl
turned_ended (a ∷ []) zero h = refl
turned_ended (a ∷ b ∷ from) zero h = let z : ⊥ = omega arith in absurd z
turned_ended (a ∷ from) (suc i) h = turned_ended from i (omega arith)

pub turned_length : (n : ℕ) (from : List ℕ) → length from ≡ 2 * n → length (turned from) ≡ 2 * n
turned_length zero [] h = refl
turned_length zero (a ∷ from) h = let z : ⊥ = omega arith in absurd z
turned_length (suc n) [] h = let z : ⊥ = omega arith in absurd z
turned_length (suc n) (a ∷ []) h = let z : ⊥ = omega arith in absurd z
turned_length (suc n) (a ∷ b ∷ from) h = omega (arith, turned_length n from (omega arith))

pub turned_short : (l : List ℕ) → length (turned l) ≤ length l
turned_short [] = omega arith
turned_short (a ∷ []) = omega arith
turned_short (a ∷ b ∷ l) = omega (arith, turned_short l)
