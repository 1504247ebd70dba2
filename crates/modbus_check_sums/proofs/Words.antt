-- A register is a word of 16 bits: shifts keep it one, and lose nothing of it.
use mathlib.Core.Path.{◌≡◌, refl, sym, ap, ◌∙◌}
use Prim.Native.Nat.{ℕ, zero, suc, ◌/◌, ◌%◌, ◌<◌}
use native.Mathlib.Omega.{arith}
use lib.Bits.{bit_xor, xor_shr, xor_lt}
use Rattle.document.specs.CheckSum.{shifted, shifts, stepped}
use Rattle.modbus_check_sums.proofs.ExclusiveOr.{of_bit, xor_cancel}
use Rattle.modbus_check_sums.proofs.Shifts.{brought_for, shifts_nothing}

pub word_xor : (x y : ℕ) → x < 65536 → y < 65536 → bit_xor x y < 65536
word_xor = xor_lt 16

word_shifted : (r : ℕ) → r < 65536 → shifted r < 65536
unfolding shifted
word_shifted r h =
    word_xor (r / 2) (brought_for (r % 2)) (omega arith)
    (of_bit (λ (bit : ℕ). brought_for bit < 65536) (omega arith) (omega arith) (r % 2) (omega arith))

-- the highest bit tells which bit fell out, for the generator has it and a shifted word has not
highest : (r : ℕ) → r < 65536 → shifted r / 32768 ≡ r % 2
unfolding shifted
highest r h =
    let none : r / 2 / 32768 ≡ 0 = omega arith in
    xor_shr (r / 2) (brought_for (r % 2)) 15
    ∙ ap (λ (x : ℕ). bit_xor x (brought_for (r % 2) / 32768)) none
    ∙ of_bit (λ (bit : ℕ). brought_for bit / 32768 ≡ bit) refl refl (r % 2) (omega arith)

shifted_one : (r s : ℕ) → r < 65536 → s < 65536 → shifted r ≡ shifted s → r ≡ s
unfolding shifted
shifted_one r s hr hs e =
    let bit : r % 2 ≡ s % 2 = sym (highest r hr) ∙ ap (λ (x : ℕ). x / 32768) e ∙ highest s hs in
    let half : r / 2 ≡ s / 2 =
    xor_cancel (r / 2) (s / 2) (brought_for (s % 2)) (ap (λ (b : ℕ). bit_xor (r / 2) (brought_for b)) (sym bit) ∙ e)
    in
    omega arith

pub word_shifts : (n r : ℕ) → r < 65536 → shifts n r < 65536
unfolding shifts
word_shifts zero r h = h
word_shifts (suc n) r h = word_shifts n (shifted r) (word_shifted r h)

pub shifts_one : (n r s : ℕ) → r < 65536 → s < 65536 → shifts n r ≡ shifts n s → r ≡ s
unfolding shifts
shifts_one zero r s hr hs e = e
shifts_one (suc n) r s hr hs e =
    shifted_one r s hr hs (shifts_one n (shifted r) (shifted s) (word_shifted r hr) (word_shifted s hs) e)

pub word_gone : (n r : ℕ) → r < 65536 → shifts n r ≡ 0 → r ≡ 0
word_gone n r h e = shifts_one n r 0 h (omega arith) (e ∙ sym (shifts_nothing n))

pub word_stepped : (r b : ℕ) → r < 65536 → b < 256 → stepped r b < 65536
unfolding stepped
word_stepped r b hr hb = word_shifts 8 (bit_xor r b) (word_xor r b hr (omega arith))
