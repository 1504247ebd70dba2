-- What 0x11 answers of a list, by the bytes of the list.
use mathlib.Core.Path.{◌≡◌, refl, sym, ap, ◌∙◌}
use mathlib.Core.List.{List, [], ◌∷◌, ◌++◌}
use Prim.Native.Nat.{ℕ, zero, suc, ◌+◌, ◌*◌, ◌<◌, ◌≤◌}
use native.Mathlib.Omega.{arith}
use lib.ListN.{length, get_or, take, replicate}
use Rattle.document.specs.Values.{number, little_endian}
use Rattle.document.specs.Tables.{Table, pair_size, tables_in, table_answer}
use Rattle.document.proofs.Values.{bytes_of_number}

-- the front of n pairs more
more : (n : ℕ) (a b c d : ℕ) (l : List ℕ) → tables_in (take (suc n * pair_size) (a ∷ b ∷ c ∷ d ∷ l)) ≡ tables_in (a ∷ b ∷ c ∷ d ∷ take (n * pair_size) l)
more n a b c d l =
    let e : suc n * pair_size ≡ suc (suc (suc (suc (n * pair_size)))) = omega arith in
    ap (λ (k : ℕ). tables_in (take k (a ∷ b ∷ c ∷ d ∷ l))) e

-- the six bytes of the pair at a place
abbrev pub told_at : List ℕ → ℕ → List ℕ
told_at l at = 2 ∷ 0 ∷ get_or l (at + 2) 0 ∷ get_or l (at + 3) 0 ∷ get_or l at 0 ∷ get_or l (at + 1) 0 ∷ []

-- the same one pair further
further : (a b c d : ℕ) (l : List ℕ) (k : ℕ) → told_at (a ∷ b ∷ c ∷ d ∷ l) (suc k * pair_size) ≡ told_at l (k * pair_size)
further a b c d l k =
    let at : ℕ = k * pair_size in
    let e0 : suc k * pair_size ≡ suc (suc (suc (suc at))) = omega arith in
    let e1 : suc k * pair_size + 1 ≡ suc (suc (suc (suc (at + 1)))) = omega arith in
    let e2 : suc k * pair_size + 2 ≡ suc (suc (suc (suc (at + 2)))) = omega arith in
    let e3 : suc k * pair_size + 3 ≡ suc (suc (suc (suc (at + 3)))) = omega arith in
    let q : List ℕ = a ∷ b ∷ c ∷ d ∷ l in
    λ i. 2 ∷ 0 ∷ get_or q (e2 i) 0 ∷ get_or q (e3 i) 0 ∷ get_or q (e0 i) 0 ∷ get_or q (e1 i) 0 ∷ []

-- two bytes are read back from the number that they are
pub pair_back : (a b : ℕ) → a < 256 → b < 256 → little_endian 2 (number (a ∷ b ∷ [])) ≡ a ∷ b ∷ []
pair_back a b ha hb = bytes_of_number (a ∷ b ∷ []) small
  where
    small : (i : ℕ) → get_or (a ∷ b ∷ []) i 0 < 256
    small zero = ha
    small (suc zero) = hb
    small (suc (suc i)) = omega arith

pub told_there : (l : List ℕ) (n index : ℕ) → ((i : ℕ) → get_or l i 0 < 256) → index < n → (index + 1) * pair_size ≤ length l
    → told_at l (index * pair_size) ≡ table_answer (tables_in (take (n * pair_size) l)) index
told_there l zero index small h long = let x : ⊥ = omega arith in absurd x
told_there [] (suc n) index small h long = let x : ⊥ = omega arith in absurd x
told_there (a ∷ []) (suc n) index small h long = let x : ⊥ = omega arith in absurd x
told_there (a ∷ b ∷ []) (suc n) index small h long = let x : ⊥ = omega arith in absurd x
told_there (a ∷ b ∷ c ∷ []) (suc n) index small h long = let x : ⊥ = omega arith in absurd x
told_there (a ∷ b ∷ c ∷ d ∷ l) (suc n) zero small h long =
    sym
    (ap (λ (ts : List Table). table_answer ts 0) (more n a b c d l)
    ∙ (λ i. 2 ∷ 0 ∷ (pair_back c d (small 2) (small 3) i ++ pair_back a b (small 0) (small 1) i)))
told_there (a ∷ b ∷ c ∷ d ∷ l) (suc n) (suc index) small h long =
    further a b c d l index
    ∙ told_there l n index (λ i. small (suc (suc (suc (suc i))))) (omega arith) (omega arith)
    ∙ sym (ap (λ (ts : List Table). table_answer ts (suc index)) (more n a b c d l))

-- beyond the last, or beyond what the list has room for
pub told_none : (l : List ℕ) (index : ℕ) → length l < (index + 1) * pair_size → table_answer (tables_in l) index ≡ replicate 6 0
told_none [] index h = refl
told_none (a ∷ []) index h = refl
told_none (a ∷ b ∷ []) index h = refl
told_none (a ∷ b ∷ c ∷ []) index h = refl
told_none (a ∷ b ∷ c ∷ d ∷ l) zero h = let x : ⊥ = omega arith in absurd x
told_none (a ∷ b ∷ c ∷ d ∷ l) (suc index) h = told_none l index (omega arith)
