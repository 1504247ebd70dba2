-- Shifts pass through exclusive or. All else about the check sum follows from this.
use mathlib.Core.Path.{◌≡◌, refl, sym, ap, ap₂, ◌∙◌}
use mathlib.Core.Bool.{cond}
use Prim.Native.Nat.{ℕ, zero, suc, ◌+◌, ◌*◌, ◌^◌, ◌/◌, ◌%◌, ◌<◌}
use native.Mathlib.Nat.{zero-add, suc-add, add_comm, mul-one, mod-lt}
use native.Mathlib.Omega.{arith}
use lib.Dec.{eqb}
use lib.Pow.{pow_pos, split}
use lib.Bits.{bit_xor, xor_shr, xor_mod, xor_comm, xor_zero_r, xor_shifted, shifted_half, shifted_even}
use Rattle.document.specs.CheckSum.{generator, shifted, shifts, stepped}
use Rattle.modbus_check_sums.proofs.ExclusiveOr.{of_bit, xor_assoc, xor_cross}

-- what a shift brings in for the bit that fell out
abbrev pub brought_for : ℕ → ℕ
brought_for bit = cond (eqb bit 1) generator 0

brought_xor : (x y : ℕ) → x < 2 → y < 2 → brought_for (bit_xor x y) ≡ bit_xor (brought_for x) (brought_for y)
brought_xor x y hx hy =
    of_bit (λ (a : ℕ). brought_for (bit_xor a y) ≡ bit_xor (brought_for a) (brought_for y)) refl
    (of_bit (λ (b : ℕ). brought_for (bit_xor 1 b) ≡ bit_xor (brought_for 1) (brought_for b)) refl refl y hy)
    x hx

shifted_xor : (x y : ℕ) → shifted (bit_xor x y) ≡ bit_xor (shifted x) (shifted y)
unfolding shifted
shifted_xor x y =
    ap₂ (λ (half bit : ℕ). bit_xor half (brought_for bit)) (xor_shr x y 1) (xor_mod x y 1)
    ∙ ap (λ (brought : ℕ). bit_xor (bit_xor (x / 2) (y / 2)) brought) (brought_xor (x % 2) (y % 2) (omega arith) (omega arith))
    ∙ xor_cross (x / 2) (y / 2) (brought_for (x % 2)) (brought_for (y % 2))

pub shifts_xor : (n x y : ℕ) → shifts n (bit_xor x y) ≡ bit_xor (shifts n x) (shifts n y)
unfolding shifts
shifts_xor zero x y = refl
shifts_xor (suc n) x y = ap (λ (r : ℕ). shifts n r) (shifted_xor x y) ∙ shifts_xor n (shifted x) (shifted y)

-- ---- one run of shifts behind another

pub shifts_add : (m n x : ℕ) → shifts (m + n) x ≡ shifts n (shifts m x)
unfolding shifts
shifts_add zero n x = ap (λ (k : ℕ). shifts k x) (zero-add n)
shifts_add (suc m) n x = ap (λ (k : ℕ). shifts k x) (suc-add m n) ∙ shifts_add m n (shifted x)

pub shifts_swap : (m n x : ℕ) → shifts m (shifts n x) ≡ shifts n (shifts m x)
shifts_swap m n x = sym (shifts_add n m x) ∙ ap (λ (k : ℕ). shifts k x) (add_comm n m) ∙ shifts_add m n x

pub shifts_nothing : (n : ℕ) → shifts n 0 ≡ 0
unfolding shifts shifted
shifts_nothing zero = refl
shifts_nothing (suc n) = shifts_nothing n

-- ---- n shifts bring down what stands n places up

shifted_up : (x n : ℕ) → shifted (x * 2 ^ suc n) ≡ x * 2 ^ n
unfolding shifted
shifted_up x n =
    ap₂ (λ (half bit : ℕ). bit_xor half (brought_for bit)) (shifted_half x n) (shifted_even x n) ∙ xor_zero_r (x * 2 ^ n)

pub shifts_up : (n x : ℕ) → shifts n (x * 2 ^ n) ≡ x
unfolding shifts
shifts_up zero x = mul-one x
shifts_up (suc n) x = ap (λ (r : ℕ). shifts n r) (shifted_up x n) ∙ shifts_up n x

-- what stands above comes down as it is, and the rest is shifted by itself
pub shifts_parts : (n x : ℕ) → shifts n x ≡ bit_xor (x / 2 ^ n) (shifts n (x % 2 ^ n))
shifts_parts n x =
    ap (λ (r : ℕ). shifts n r) (sym (xor_shifted (x / 2 ^ n) n (x % 2 ^ n) (mod-lt x (pow_pos n)) ∙ split x n))
    ∙ shifts_xor n (x / 2 ^ n * 2 ^ n) (x % 2 ^ n)
    ∙ ap (λ (r : ℕ). bit_xor r (shifts n (x % 2 ^ n))) (shifts_up n (x / 2 ^ n))

-- a byte taken in, and then what comes behind it: both at once
pub joined : (r b w : ℕ) → b < 256 → bit_xor (stepped r b) w ≡ shifts 8 (bit_xor r (b + 256 * w))
unfolding stepped
joined r b w h =
    let place : w * 2 ^ 8 + b ≡ b + 256 * w = omega arith in
    ap (λ (x : ℕ). bit_xor (shifts 8 (bit_xor r b)) x) (sym (shifts_up 8 w))
    ∙ sym (shifts_xor 8 (bit_xor r b) (w * 256))
    ∙ ap (λ (x : ℕ). shifts 8 x)
    (xor_assoc r b (w * 256) ∙ ap (λ (x : ℕ). bit_xor r x) (xor_comm b (w * 256) ∙ xor_shifted w 8 b h ∙ place))
