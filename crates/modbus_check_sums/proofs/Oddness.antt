-- A shift keeps an odd number of bits odd: the generator has three bits, which come in for the one that fell out.
use mathlib.Core.Path.{◌≡◌, refl, ap, ◌∙◌}
use Prim.Native.Nat.{ℕ, zero, suc, ◌+◌, ◌*◌, ◌^◌, ◌/◌, ◌%◌, ◌<◌, ◌≤◌}
use native.Mathlib.Nat.{add-zero, add-suc, pow-suc, lt_of_lt_of_le}
use native.Mathlib.Omega.{arith}
use lib.Arith.{lt-one}
use lib.Pow.{pow_mono}
use lib.Bits.{bit_xor, xor_shr, xor_mod, xor_lt}
use Rattle.document.specs.CheckSum.{generator, shifted, shifts}
use Rattle.modbus_check_sums.specs.Flips.{bits_set}
use Rattle.modbus_check_sums.proofs.ExclusiveOr.{of_bit}
use Rattle.modbus_check_sums.proofs.Shifts.{brought_for}

-- ---- how many bits are set

bit_xor_lem : (x y : ℕ) → x < 2 → y < 2 → bit_xor x y ≡ (x + y) % 2
bit_xor_lem x y hx hy =
    of_bit (λ (a : ℕ). bit_xor a y ≡ (a + y) % 2) (omega arith)
    (of_bit (λ (b : ℕ). bit_xor 1 b ≡ (1 + b) % 2) refl refl y hy)
    x hx

bits_xor : (n x y : ℕ) → bits_set n (bit_xor x y) % 2 ≡ (bits_set n x + bits_set n y) % 2
bits_xor zero x y = refl
bits_xor (suc n) x y =
    let low : bit_xor x y % 2 ≡ (x % 2 + y % 2) % 2 = xor_mod x y 1 ∙ bit_xor_lem (x % 2) (y % 2) (omega arith) (omega arith) in
    let rest : bits_set n (bit_xor x y / 2) % 2 ≡ (bits_set n (x / 2) + bits_set n (y / 2)) % 2 =
    ap (λ (z : ℕ). bits_set n z % 2) (xor_shr x y 1) ∙ bits_xor n (x / 2) (y / 2)
    in
    omega arith

pub bits_none : (n : ℕ) → bits_set n 0 ≡ 0
bits_none zero = refl
bits_none (suc n) = omega (arith, bits_none n)

bits_next : (n x : ℕ) → x < 2 ^ n → bits_set (suc n) x ≡ bits_set n x
bits_next zero x h = ap (λ (y : ℕ). bits_set 1 y) (lt-one h)
bits_next (suc n) x h =
    let double : 2 ^ suc n ≡ 2 ^ n * 2 = pow-suc 2 n in
    ap (λ (s : ℕ). x % 2 + s) (bits_next n (x / 2) (omega arith))

pub bits_more : (n j x : ℕ) → x < 2 ^ n → bits_set (n + j) x ≡ bits_set n x
bits_more n zero x h = ap (λ (k : ℕ). bits_set k x) (add-zero n)
bits_more n (suc j) x h =
    ap (λ (k : ℕ). bits_set k x) (add-suc n j)
    ∙ bits_next (n + j) x (lt_of_lt_of_le h (pow_mono (omega arith)))
    ∙ bits_more n j x h

-- ---- through shifts, of 16 bits and more

module _ (j : ℕ) where
  brought_fits : (bit : ℕ) → bit < 2 → brought_for bit < 2 ^ (16 + j)
  brought_fits =
      let wide : 2 ^ 16 ≤ 2 ^ (16 + j) = pow_mono {i = 16} {j = 16 + j} (omega arith) in
      of_bit (λ (b : ℕ). brought_for b < 2 ^ (16 + j)) (omega arith) (lt_of_lt_of_le (omega arith) wide)

  brought_odd : (bit : ℕ) → bit < 2 → bits_set (16 + j) (brought_for bit) % 2 ≡ bit
  brought_odd =
      of_bit (λ (b : ℕ). bits_set (16 + j) (brought_for b) % 2 ≡ b)
      (ap (λ (s : ℕ). s % 2) (bits_none (16 + j)))
      (ap (λ (s : ℕ). s % 2) (bits_more 16 j generator (omega arith)))

  shifted_fits : (r : ℕ) → r < 2 ^ (16 + j) → shifted r < 2 ^ (16 + j)
  unfolding shifted
  shifted_fits r h = xor_lt (16 + j) (r / 2) (brought_for (r % 2)) (omega arith) (brought_fits (r % 2) (omega arith))

  shifted_odd : (r : ℕ) → r < 2 ^ (16 + j) → bits_set (16 + j) (shifted r) % 2 ≡ bits_set (16 + j) r % 2
  unfolding shifted
  shifted_odd r h =
      let size : 16 + j ≡ suc (15 + j) = omega arith in
      let double : 2 ^ suc (15 + j) ≡ 2 ^ (15 + j) * 2 = pow-suc 2 (15 + j) in
      let half : bits_set (suc (15 + j)) (r / 2) ≡ bits_set (15 + j) (r / 2) = bits_next (15 + j) (r / 2) (omega (arith, ap (λ (k : ℕ). 2 ^ k) size)) in
      let all : bits_set (16 + j) r ≡ r % 2 + bits_set (15 + j) (r / 2) = ap (λ (k : ℕ). bits_set k r) size in
      let low : bits_set (16 + j) (r / 2) ≡ bits_set (15 + j) (r / 2) = ap (λ (k : ℕ). bits_set k (r / 2)) size ∙ half in
      omega (arith, bits_xor (16 + j) (r / 2) (brought_for (r % 2)), brought_odd (r % 2) (omega arith))

  pub shifts_odd : (n r : ℕ) → r < 2 ^ (16 + j) → bits_set (16 + j) (shifts n r) % 2 ≡ bits_set (16 + j) r % 2
  unfolding shifts
  shifts_odd zero r h = refl
  shifts_odd (suc n) r h = shifts_odd n (shifted r) (shifted_fits r h) ∙ shifted_odd r h
