-- Bytes of a range stored at once.
use mathlib.Core.Path.{◌≡◌, sym, ap, ◌∙◌}
use mathlib.Core.List.{List, [], ◌∷◌}
use Prim.Native.Nat.{ℕ, zero, suc, ◌+◌, ◌<◌, ◌≤◌}
use native.Mathlib.Nat.{add-zero}
use native.Mathlib.Omega.{arith}
use lib.ListN.{length, set, take, drop, length-set}
use lib.Seq.{sets, set-set, set_comm, take-set-lt, drop-set-add, length-sets}
use Rattle.document.specs.Areas.{bytes_at}
use Rattle.bytes_fields.proofs.Ranges.{bytes_length, sets_same}

-- what is stored over a byte forgets it
forgets : (xs l : List ℕ) (i k b : ℕ) → k < length xs → sets (set l (i + k) b) i xs ≡ sets l i xs
forgets [] l i k b h = let z : ⊥ = omega arith in absurd z
forgets (x ∷ xs) l i zero b h =
    ap (λ (j : ℕ). sets (set (set l j b) i x) (suc i) xs) (add-zero i) ∙ ap (λ (r : List ℕ). sets r (suc i) xs) (set-set l i b x)
forgets (x ∷ xs) l i (suc k) b h =
    ap (λ (r : List ℕ). sets r (suc i) xs) (set_comm l (i + suc k) i b x (λ e. omega (arith, e)))
    ∙ ap (λ (j : ℕ). sets (set (set l i x) j b) (suc i) xs) (omega arith)
    ∙ forgets xs (set l i x) (suc i) k b (omega arith)

bytes_set : (l : List ℕ) (i n k b : ℕ) → k < n → bytes_at (set l (i + k) b) i n ≡ set (bytes_at l i n) k b
bytes_set l i n k b h = ap (take n) (drop-set-add i l k b) ∙ take-set-lt n (drop i l) k b h

-- bytes of a range stored
pub sets_part : (bs l : List ℕ) (i n k : ℕ) → k + length bs ≤ n → i + n ≤ length l → sets l i (sets (bytes_at l i n) k bs) ≡ sets l (i + k) bs
sets_part [] l i n k h fits = sets_same n l i fits
sets_part (b ∷ bs) l i n k h fits =
    sym (forgets (sets (set (bytes_at l i n) k b) (suc k) bs) l i k b long)
    ∙ ap (λ (r : List ℕ). sets (set l (i + k) b) i (sets r (suc k) bs)) (sym (bytes_set l i n k b (omega arith)))
    ∙ sets_part bs (set l (i + k) b) i n (suc k) (omega arith) (rw length-set fits)
    ∙ ap (λ (j : ℕ). sets (set l (i + k) b) j bs) (omega arith)
  where
    long : k < length (sets (set (bytes_at l i n) k b) (suc k) bs)
    long = rw (length-sets (set (bytes_at l i n) k b) (suc k) bs, length-set (bytes_at l i n) k b, bytes_length l i n fits) (omega arith)
