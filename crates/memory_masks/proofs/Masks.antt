-- Masked stores at every width: bit by bit, by and, or and complement, and byte by byte.
use mathlib.Core.Path.{◌≡◌, refl, sym, ap, ◌∙◌}
use mathlib.Core.Bool.{Bool, true, false, cond}
use Prim.Native.Nat.{ℕ, zero, suc, ◌+◌, ◌-◌, ◌*◌, ◌^◌, ◌/◌, ◌%◌, ◌<◌}
use native.Mathlib.Nat.{pow-suc, zero-add, suc-add, div-one, mul_comm, mul_assoc}
use native.Mathlib.Numerals.{add-one}
use native.Mathlib.Omega.{arith}
use lib.Dec.{eqb}
use lib.Bits.{bit_and, bit_or, and_shr, or_shr, and_mod, or_mod}
use lib.Pow.{pow_pos, shr-shr, mod-mod-pow, field}
use Rattle.document.specs.Stores.{masked, masked_bytes}
use Rattle.document.specs.Values.{little_endian}
use Rattle.memory_masks.specs.Bits.{bit}

-- ---- bit by bit

-- one bit of a masked store
abbrev taken : ℕ → ℕ → ℕ → ℕ
taken old value mask = cond (eqb mask 1) value old

taken_bit : (t : Bool) (o v : ℕ) → o < 2 → v < 2 → cond t v o < 2
taken_bit true o v ho hv = hv
taken_bit false o v ho hv = ho

lowest : (o v m : ℕ) → taken (o % 2) (v % 2) (m % 2) < 2
lowest o v m = taken_bit (eqb (m % 2) 1) (o % 2) (v % 2) (omega arith) (omega arith)

-- "A bit set in the mask takes the value's bit; every other bit stays."
pub masked_bit : (i k old value mask : ℕ) → i < k → bit i (masked k old value mask) ≡ cond (eqb (bit i mask) 1) (bit i value) (bit i old)
masked_bit i zero o v m h = omega arith
masked_bit zero (suc k) o v m h = omega (arith, lowest o v m)
masked_bit (suc i) (suc k) o v m h =
    let e : masked (suc k) o v m / 2 ≡ masked k (o / 2) (v / 2) (m / 2) = omega (arith, lowest o v m) in
    ap (bit i) e ∙ masked_bit i k (o / 2) (v / 2) (m / 2) (omega arith)

-- ---- by and, or and complement

one_bit : (o v m : ℕ) → o < 2 → v < 2 → m < 2 → bit_or (bit_and o (1 - m)) (bit_and v m) ≡ taken o v m
one_bit zero zero zero ho hv hm = refl
one_bit zero zero (suc zero) ho hv hm = refl
one_bit zero (suc zero) zero ho hv hm = refl
one_bit zero (suc zero) (suc zero) ho hv hm = refl
one_bit (suc zero) zero zero ho hv hm = refl
one_bit (suc zero) zero (suc zero) ho hv hm = refl
one_bit (suc zero) (suc zero) zero ho hv hm = refl
one_bit (suc zero) (suc zero) (suc zero) ho hv hm = refl
one_bit (suc (suc o)) v m ho hv hm = omega arith
one_bit zero (suc (suc v)) m ho hv hm = omega arith
one_bit (suc zero) (suc (suc v)) m ho hv hm = omega arith
one_bit zero zero (suc (suc m)) ho hv hm = omega arith
one_bit zero (suc zero) (suc (suc m)) ho hv hm = omega arith
one_bit (suc zero) zero (suc (suc m)) ho hv hm = omega arith
one_bit (suc zero) (suc zero) (suc (suc m)) ho hv hm = omega arith

-- what the code computes at k bits, where the complement of m is 2 ^ k - 1 - m
abbrev mixed : ℕ → ℕ → ℕ → ℕ → ℕ
mixed k o v m = bit_or (bit_and o ((2 ^ k - 1) - m)) (bit_and v m)

mixed_half : (k o v m : ℕ) → m < 2 ^ suc k → mixed (suc k) o v m / 2 ≡ mixed k (o / 2) (v / 2) (m / 2)
mixed_half k o v m h =
    let p : 2 ^ suc k ≡ 2 ^ k * 2 = pow-suc 2 k in
    let c : ((2 ^ suc k - 1) - m) / 2 ≡ (2 ^ k - 1) - m / 2 = omega arith in
    rw (or_shr (bit_and o ((2 ^ suc k - 1) - m)) (bit_and v m) 1, and_shr o ((2 ^ suc k - 1) - m) 1, and_shr v m 1, c)

mixed_lowest : (k o v m : ℕ) → m < 2 ^ suc k → mixed (suc k) o v m % 2 ≡ taken (o % 2) (v % 2) (m % 2)
mixed_lowest k o v m h =
    let p : 2 ^ suc k ≡ 2 ^ k * 2 = pow-suc 2 k in
    let q : 0 < 2 ^ k = pow_pos k in
    let c : ((2 ^ suc k - 1) - m) % 2 ≡ 1 - m % 2 = omega arith in
    rw (or_mod (bit_and o ((2 ^ suc k - 1) - m)) (bit_and v m) 1, and_mod o ((2 ^ suc k - 1) - m) 1, and_mod v m 1, c)
    (one_bit (o % 2) (v % 2) (m % 2) (omega arith) (omega arith) (omega arith))

pub mixed_masked : (k old value mask : ℕ) → old < 2 ^ k → value < 2 ^ k → mask < 2 ^ k
    → bit_or (bit_and old ((2 ^ k - 1) - mask)) (bit_and value mask) ≡ masked k old value mask
mixed_masked zero o v m ho hv hm =
    let eo : o ≡ 0 = omega arith in
    let ev : v ≡ 0 = omega arith in
    rw (eo, ev)
mixed_masked (suc k) o v m ho hv hm =
    let p : 2 ^ suc k ≡ 2 ^ k * 2 = pow-suc 2 k in
    let i : mixed k (o / 2) (v / 2) (m / 2) ≡ masked k (o / 2) (v / 2) (m / 2) = mixed_masked k (o / 2) (v / 2) (m / 2) (omega arith) (omega arith) (omega arith) in
    omega (arith, mixed_lowest k o v m hm, mixed_half k o v m hm ∙ i)

-- ---- byte by byte

-- k bits of a masked store look at no others
masked_low : (k o v m : ℕ) → masked k (o % 2 ^ k) (v % 2 ^ k) (m % 2 ^ k) ≡ masked k o v m
masked_low zero o v m = refl
masked_low (suc k) o v m =
    let a : (x : ℕ) → x % 2 ^ suc k % 2 ≡ x % 2 = λ x. rw add-one at (mod-mod-pow x k 1) in
    let b : (x : ℕ) → x % 2 ^ suc k / 2 ≡ x / 2 % 2 ^ k = λ x. rw add-one at (field x k 1) in
    rw (a o, a v, a m, b o, b v, b m, masked_low k (o / 2) (v / 2) (m / 2))

twice : (j b : ℕ) → 2 ^ suc j * b ≡ 2 * (2 ^ j * b)
twice j b = rw (pow-suc 2 j, mul_comm (2 ^ j) 2, mul_assoc 2 (2 ^ j) b)

-- the bits behind the first j are a masked store of their own
masked_append : (j k o v m : ℕ) → masked (j + k) o v m ≡ masked j o v m + 2 ^ j * masked k (o / 2 ^ j) (v / 2 ^ j) (m / 2 ^ j)
masked_append zero k o v m = rw (zero-add k, div-one o, div-one v, div-one m) (omega arith)
masked_append (suc j) k o v m =
    let s : 1 + j ≡ suc j = omega arith in
    let d : (x : ℕ) → x / 2 / 2 ^ j ≡ x / 2 ^ suc j = λ x. shr-shr x 1 j ∙ ap (λ (e : ℕ). x / 2 ^ e) s in
    let b = masked k (o / 2 ^ suc j) (v / 2 ^ suc j) (m / 2 ^ suc j) in
    rw (suc-add j k, masked_append j k (o / 2) (v / 2) (m / 2), d o, d v, d m) (omega (arith, twice j b))

pub masked_below : (k o v m : ℕ) → masked k o v m < 2 ^ k
masked_below zero o v m = omega arith
masked_below (suc k) o v m =
    let p : 2 ^ suc k ≡ 2 ^ k * 2 = pow-suc 2 k in
    omega (arith, lowest o v m, masked_below k (o / 2) (v / 2) (m / 2))

-- a number's masked store is that of its bytes, at every width
pub masked_bytes_lem : (n old value mask : ℕ)
    → little_endian n (masked (8 * n) old value mask) ≡ masked_bytes (little_endian n old) (little_endian n value) (little_endian n mask)
masked_bytes_lem zero o v m = refl
masked_bytes_lem (suc n) o v m =
    let e : 8 * suc n ≡ 8 + 8 * n = omega arith in
    let a : masked (8 + 8 * n) o v m ≡ masked 8 o v m + 256 * masked (8 * n) (o / 256) (v / 256) (m / 256) = masked_append 8 (8 * n) o v m in
    let lo : masked (8 + 8 * n) o v m % 256 ≡ masked 8 (o % 256) (v % 256) (m % 256) = omega (arith, a, masked_below 8 o v m) ∙ sym (masked_low 8 o v m) in
    let hi : masked (8 + 8 * n) o v m / 256 ≡ masked (8 * n) (o / 256) (v / 256) (m / 256) = omega (arith, a, masked_below 8 o v m) in
    rw (e, hi, lo, masked_bytes_lem n (o / 256) (v / 256) (m / 256))
