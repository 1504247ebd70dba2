-- Numbers of n bytes: how large they are, and a turn of reading one.
use mathlib.Core.Path.{◌≡◌, refl, ap, ◌∙◌}
use mathlib.Core.List.{List, reverse}
use Prim.Native.Nat.{ℕ, zero, suc, ◌+◌, ◌-◌, ◌*◌, ◌^◌, ◌<◌, ◌≤◌}
use native.Mathlib.Nat.{pow-suc, pow-le-pow_right, zero-lt-suc}
use native.Mathlib.Numerals.{add-one}
use native.Mathlib.Omega.{arith}
use lib.Pow.{pow_mono, pow-add}
use lib.ListN.{length, get_or, drop}
use lib.Seq.{drop-cons}
use Rattle.std.proofs.lemmas.List.{length-reverse, get_or-reverse, get_or_default}
use Rattle.document.specs.Values.{number}

-- ---- how large

pub bytes_bits : (n : ℕ) → 256 ^ n ≡ 2 ^ (8 * n)
bytes_bits zero = refl
bytes_bits (suc n) =
    let e : 8 * suc n ≡ 8 * n + 8 = omega arith in
    rw (pow-suc 256 n, e, pow-add 2 (8 * n) 8, bytes_bits n)

pub four_bytes : (n : ℕ) → n ≤ 4 → 2 ^ (8 * n) ≤ 2 ^ 32
four_bytes n h = pow_mono {i = 8 * n} {j = 32} (omega arith)

pub fewer_bytes : (k n : ℕ) → k ≤ n → 256 ^ k ≤ 256 ^ n
fewer_bytes k n h = pow-le-pow_right (zero-lt-suc 255) {i = k} {j = n} h

-- ---- a turn of the reading, from the highest byte down: x is the number of so many bytes as were passed

pub byte_more_below : (x b passed : ℕ) → x < 256 ^ passed → b < 256 → x * 256 + b < 256 ^ (passed + 1)
byte_more_below x b passed hx hb = rw (add-one passed, pow-suc 256 passed) (omega arith)

module _ (bytes : List ℕ) (passed b : ℕ) (turn : (passed < length (reverse bytes)) × (b ≡ get_or (reverse bytes) passed b)) where
  -- it is one of the bytes
  pub next_back : (passed < length bytes) × (b ≡ get_or bytes (length bytes - 1 - passed) 0)
  next_back =
      let l : passed < length bytes = omega (arith, length-reverse bytes) in
      (l, turn.1 ∙ get_or_default (reverse bytes) passed b 0 turn.0 ∙ get_or-reverse bytes passed 0 l)

  pub byte_more : (x : ℕ) → x ≡ number (drop (length bytes - passed) bytes) → x * 256 + b ≡ number (drop (length bytes - (passed + 1)) bytes)
  byte_more x ex =
      let l : passed < length bytes = next_back.0 in
      let i = length bytes - 1 - passed in
      let e : suc i ≡ length bytes - passed = omega arith in
      let f : length bytes - (passed + 1) ≡ i = omega arith in
      rw f (omega (arith, next_back.1, ap number (drop-cons bytes i 0 (omega arith)), ap (λ (k : ℕ). number (drop k bytes)) e))
