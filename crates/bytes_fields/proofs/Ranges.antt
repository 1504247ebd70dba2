-- Bytes of a block by their places: one in front of others, two ranges that meet, and stores of what is there.
use mathlib.Core.Path.{◌≡◌, refl, sym, ap, ◌∙◌}
use mathlib.Core.List.{List, [], ◌∷◌, ◌++◌}
use Prim.Native.Nat.{ℕ, zero, suc, ◌+◌, ◌<◌, ◌≤◌}
use native.Mathlib.Nat.{add-zero}
use native.Mathlib.Omega.{arith}
use lib.ListN.{length, get_or, set, take, drop, length-take, length-drop, length-set}
use borrow.Rule.Slice.PartMut.{put_mid}
use lib.Seq.{sets, sets-eq, drop-set-lt, drop-cons, drop-drop, take-add, take-length, set-get_or, set-set, set_comm}
use Rattle.std.proofs.lemmas.Slice.{put_mid-paste}
use Rattle.document.specs.Areas.{bytes_at}

module _ (l : List ℕ) where
  -- a byte and those behind it
  pub bytes_cons : (i n : ℕ) → i < length l → get_or l i 0 ∷ bytes_at l (suc i) n ≡ bytes_at l i (suc n)
  bytes_cons i n h = ap (take (suc n)) (sym (drop-cons l i 0 h))

  -- two ranges that meet
  pub bytes_append : (i n m : ℕ) → bytes_at l i n ++ bytes_at l (i + n) m ≡ bytes_at l i (n + m)
  bytes_append i n m = sym (take-add n m (drop i l) ∙ ap (λ (k : List ℕ). bytes_at l i n ++ take m k) (drop-drop n i l))

  pub bytes_length : (i n : ℕ) → i + n ≤ length l → length (bytes_at l i n) ≡ n
  bytes_length i n h = simp (length-take, length-drop) (omega arith)

-- a store of what is there
pub sets_same : (n : ℕ) (l : List ℕ) (i : ℕ) → i + n ≤ length l → sets l i (bytes_at l i n) ≡ l
sets_same zero l i h = refl
sets_same (suc n) l i h =
    ap (sets l i) (sym (bytes_cons l i n (omega arith)))
    ∙ ap (λ (k : List ℕ). sets k (suc i) (bytes_at l (suc i) n)) (set-get_or l i 0)
    ∙ sets_same n l (suc i) (omega arith)

-- one byte of a range stored
pub sets_set : (n : ℕ) (l : List ℕ) (i k b : ℕ) → k < n → i + n ≤ length l → sets l i (set (bytes_at l i n) k b) ≡ set l (i + k) b
sets_set zero l i k b h fits = let z : ⊥ = omega arith in absurd z
sets_set (suc n) l i zero b h fits =
    ap (λ (r : List ℕ). sets l i (set r 0 b)) (sym (bytes_cons l i n (omega arith)))
    ∙ ap (sets (set l i b) (suc i)) (ap (take n) (sym (drop-set-lt (suc i) l i b (omega arith))))
    ∙ sets_same n (set l i b) (suc i) (rw length-set (omega arith))
    ∙ ap (λ (j : ℕ). set l j b) (sym (add-zero i))
sets_set (suc n) l i (suc k) b h fits =
    ap (λ (r : List ℕ). sets l i (set r (suc k) b)) (sym (bytes_cons l i n (omega arith)))
    ∙ ap (λ (r : List ℕ). sets r (suc i) (set (bytes_at l (suc i) n) k b)) (set-get_or l i 0)
    ∙ sets_set n l (suc i) k b (omega arith) (omega arith)
    ∙ ap (λ (j : ℕ). set l j b) (omega arith)

-- a part of a block that was written anew, as the library's methods on a part leave it
pub part_stored : (part l : List ℕ) (at n : ℕ) → length part ≡ n → at + n ≤ length l → put_mid at n l part ≡ sets l at part
part_stored part l at n e h =
    put_mid-paste at n l part part n refl refl (sym e)
    ∙ ap (λ (k : ℕ). take at l ++ take k part ++ drop (at + k) l) (sym e)
    ∙ ap (λ (front : List ℕ). take at l ++ front ++ drop (at + length part) l) (take-length part)
    ∙ sym (sets-eq part l at (omega arith))

-- what lies behind a place, stored on its own
sets_behind : (xs : List ℕ) (x : ℕ) (l : List ℕ) (i : ℕ) → sets (x ∷ l) (suc i) xs ≡ x ∷ sets l i xs
sets_behind [] x l i = refl
sets_behind (y ∷ ys) x l i = sets_behind ys x (set l i y) (suc i)

pub split_stored : (place : ℕ) (l xs : List ℕ) → place ≤ length l → take place l ++ sets (drop place l) 0 xs ≡ sets l place xs
split_stored zero l xs h = refl
split_stored (suc place) [] xs h = let z : ⊥ = omega arith in absurd z
split_stored (suc place) (x ∷ l) xs h = ap (λ (r : List ℕ). x ∷ r) (split_stored place l xs (omega arith)) ∙ sym (sets_behind xs x l place)

-- ---- two stores that lie apart, in either order

byte_apart : (ys l : List ℕ) (p i b : ℕ) → i < p → set (sets l p ys) i b ≡ sets (set l i b) p ys
byte_apart [] l p i b h = refl
byte_apart (y ∷ ys) l p i b h =
    byte_apart ys (set l p y) (suc p) i b (omega arith)
    ∙ ap (λ (k : List ℕ). sets k (suc p) ys) (set_comm l p i y b (λ e. let z : ⊥ = omega arith in z))

pub sets_apart : (xs ys l : List ℕ) (p q : ℕ) → q + length ys ≤ p → sets (sets l p xs) q ys ≡ sets (sets l q ys) p xs
sets_apart xs [] l p q h = refl
sets_apart xs (y ∷ ys) l p q h =
    ap (λ (k : List ℕ). sets k (suc q) ys) (byte_apart xs l p q y (omega arith)) ∙ sets_apart xs ys (set l q y) p (suc q) (omega arith)

-- ---- a store over another

pub sets_over : (xs ys l : List ℕ) (i : ℕ) → length xs ≤ length ys → sets (sets l i xs) i ys ≡ sets l i ys
sets_over [] ys l i h = refl
sets_over (x ∷ xs) [] l i h = let z : ⊥ = omega arith in absurd z
sets_over (x ∷ xs) (y ∷ ys) l i h =
    ap (λ (k : List ℕ). sets k (suc i) ys) (byte_apart xs (set l i x) (suc i) i y (omega arith) ∙ ap (λ (k : List ℕ). sets k (suc i) xs) (set-set l i x y))
    ∙ sets_over xs ys (set l i y) (suc i) (omega arith)
