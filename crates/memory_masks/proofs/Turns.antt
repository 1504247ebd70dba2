-- Turns of the masked stores: what is left to store gives the whole.
use mathlib.Core.Path.{◌≡◌, refl, sym, ap}
use mathlib.Core.Bool.{Bool, true, false}
use mathlib.Core.List.{List, [], ◌∷◌}
use Prim.Native.Nat.{ℕ, zero, suc, ◌+◌, ◌*◌, ◌/◌, ◌<◌, ◌≤◌, min}
use native.Mathlib.Nat.{add-suc}
use native.Mathlib.Numerals.{add-one}
use native.Mathlib.Omega.{arith}
use lib.Dec.{leb}
use lib.ListN.{length, get_or, set, take, drop, drop_of_length-le}
use lib.Seq.{drop-cons, drop-set-lt}
use borrow.Author.Tests.{leb-true, leb-false}
use Rattle.document.specs.Areas.{bytes_at}
use Rattle.document.specs.Stores.{stored, masked, masked_bytes, mask_stored}
use Rattle.document.specs.Values.{little_endian}
use Rattle.memory_masks.proofs.Masks.{masked_bytes_lem}

-- ---- bytes

masked_no_mask : (os vs : List ℕ) → masked_bytes os vs [] ≡ []
masked_no_mask [] vs = refl
masked_no_mask (o ∷ os) [] = refl
masked_no_mask (o ∷ os) (v ∷ vs) = refl

-- values or masks have come to their end
pub mask_stored_ended : (memory values masks : List ℕ) (at i : ℕ) → min (length values) (length masks) ≤ i
    → memory ≡ mask_stored memory (at + i) (drop i values) (drop i masks)
mask_stored_ended mem vs ms at i h = ended (leb (length vs) i) refl
  where
    ended : (t : Bool) → leb (length vs) i ≡ t → mem ≡ mask_stored mem (at + i) (drop i vs) (drop i ms)
    ended true e = rw (drop_of_length-le vs (leb-true (length vs) i e))
    ended false e =
        rw (drop_of_length-le ms {i = i} (omega (arith, leb-false (length vs) i e)), masked_no_mask (take (length (drop i vs)) (drop (at + i) mem)) (drop i vs))

-- one byte, and then those behind it
pub mask_stored_cons : (memory : List ℕ) (at v m : ℕ) (vs ms : List ℕ) → at < length memory
    → mask_stored memory at (v ∷ vs) (m ∷ ms) ≡ mask_stored (set memory at (masked 8 (get_or memory at 0) v m)) (suc at) vs ms
mask_stored_cons mem at v m vs ms h =
    rw (drop-set-lt (suc at) mem at (masked 8 (get_or mem at 0) v m) (omega arith), drop-cons mem at 0 h)

pub mask_stored_next : (memory values masks : List ℕ) (at i b : ℕ) → at + i < length memory → i < length values → i < length masks
    → b ≡ masked 8 (get_or memory (at + i) 0) (get_or values i 0) (get_or masks i 0)
    → mask_stored (set memory (at + i) b) (at + (i + 1)) (drop (i + 1) values) (drop (i + 1) masks) ≡ mask_stored memory (at + i) (drop i values) (drop i masks)
mask_stored_next mem vs ms at i b hm hv hk e =
    rw (add-one i, add-suc at i, e, drop-cons vs i 0 hv, drop-cons ms i 0 hk)
    (sym (mask_stored_cons mem (at + i) (get_or vs i 0) (get_or ms i 0) (drop (suc i) vs) (drop (suc i) ms) hm))

-- ---- a number of n bytes

length_bytes : (n x : ℕ) → length (little_endian n x) ≡ n
length_bytes zero x = refl
length_bytes (suc n) x = ap suc (length_bytes n (x / 256))

-- the masked store of a number is the store of the masked number
pub mask_stored_number : (n : ℕ) (memory : List ℕ) (at old value mask : ℕ) → bytes_at memory at n ≡ little_endian n old
    → mask_stored memory at (little_endian n value) (little_endian n mask) ≡ stored memory at (little_endian n (masked (8 * n) old value mask))
mask_stored_number n mem at o v m e = rw (length_bytes n v, e, masked_bytes_lem n o v m)
