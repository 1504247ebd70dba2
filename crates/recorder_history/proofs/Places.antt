-- "Set k since the start goes to place k modulo 'samples'": places counted round, and the bytes that each has.
use mathlib.Core.Path.{◌≡◌, sym}
use mathlib.Core.List.{List}
use Prim.Native.Nat.{ℕ, zero, suc, ◌+◌, ◌*◌, ◌/◌, ◌%◌, ◌<◌, ◌≤◌}
use native.Mathlib.Nat.{suc-mod, mod_self, mod-lt, mod-eq_of_lt, zero-mod, div-add-mod', mul-le-mul_right, suc-mul}
use native.Mathlib.Numerals.{add-one}
use native.Mathlib.Omega.{arith}
use lib.Dec.{eqb, ltb, leb}
use lib.ListN.{length}
use lib.Seq.{sets}
use borrow.Author.Tests.{eqb-true, eqb-false, ltb-true, ltb-false, leb-true, leb-false, le-leb, lt-leb}
use Rattle.document.specs.Areas.{bytes_at}
use Rattle.document.specs.Run.{place_after, full_after}
use Rattle.recorder_history.specs.History.{place_of_set}
use Rattle.document.proofs.Cases.{split}
use Rattle.memory_ranges.proofs.Stored.{bytes_before, bytes_behind}

-- the place behind that of set k is that of set k + 1
pub place_next : (k n : ℕ) → 1 ≤ n → place_after n (k % n) ≡ suc k % n
place_next k n h =
    split (eqb (k % n + 1) n)
    (λ t. let e : suc (k % n) ≡ n = omega (arith, eqb-true (k % n + 1) n t) in
    rw (t, suc-mod k n) (rw e (sym (mod_self n))))
    (λ f. let l : suc (k % n) < n = omega (arith, mod-lt k {m = n} h, eqb-false (k % n + 1) n f) in
    rw (f, suc-mod k n, mod-eq_of_lt l) (add-one (k % n)))

-- set k, counted from 0, goes to place k modulo samples
pub place_mod : (n k : ℕ) → 1 ≤ n → place_of_set n k ≡ k % n
place_mod n zero h = sym (zero-mod n)
place_mod n (suc k) h = rw (place_mod n k h) (place_next k n h)

-- the ring is full once as many sets are taken as it has places
pub full_next : (k n : ℕ) → full_after n (k % n) (leb n k) ≡ leb n (suc k)
full_next k n =
    split (leb n k)
    (λ t. rw (t, le-leb n (suc k) (omega (arith, leb-true n k t))))
    (λ f. let l : k < n = leb-false n k f in
    rw (f, mod-eq_of_lt l)
    (split (eqb (k + 1) n)
    (λ t. rw (t, le-leb n (suc k) (omega (arith, eqb-true (k + 1) n t))))
    (λ g. rw (g, lt-leb n (suc k) (omega (arith, eqb-false (k + 1) n g))))))

-- a place ends where the next begins, within the places that there are
pub place_room : (i n w : ℕ) → i < n → i * w + w ≤ n * w
place_room i n w h = rw (← suc-mul i w) (mul-le-mul_right w h)

-- sets less than a round apart have different places
pub places_apart : (j k n : ℕ) → j < k → k < j + n → j % n ≡ k % n → ⊥
places_apart j k n l u e =
    split (leb (k / n) (j / n))
    (λ t. omega (arith, div-add-mod' j n, div-add-mod' k n, mul-le-mul_right {m = k / n} {n = j / n} n (leb-true (k / n) (j / n) t)))
    (λ f. omega (arith, div-add-mod' j n, div-add-mod' k n, place_room (j / n) (k / n) n (leb-false (k / n) (j / n) f)))

-- a store at one place leaves the others
pub other_place : (vs m : List ℕ) (base i j w : ℕ) → length vs ≡ w → (i ≡ j → ⊥)
    → bytes_at (sets m (base + i * w) vs) (base + j * w) w ≡ bytes_at m (base + j * w) w
other_place vs m base i j w e ne =
    split (ltb i j)
    (λ t. bytes_behind vs m (base + i * w) (base + j * w) w (omega (arith, place_room i j w (ltb-true i j t))))
    (λ f. let l : j < i = omega (arith, ltb-false i j f, ne) in
    bytes_before vs m (base + i * w) (base + j * w) w (omega (arith, place_room j i w l)))
