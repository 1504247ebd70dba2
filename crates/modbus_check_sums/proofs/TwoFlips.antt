-- Two flipped bits: no single bit comes back to where it stood within the bits of a frame, by one computation.
use mathlib.Core.Path.{◌≡◌, sym, ap, ◌∙◌}
use mathlib.Core.Logic.{◌≢◌}
use mathlib.Core.Bool.{Bool, true, false, false≢true, not, ◌&&◌}
use Prim.Native.Nat.{ℕ, zero, suc, ◌+◌, ◌-◌, ◌*◌, ◌^◌, ◌<◌}
use native.Mathlib.Nat.{lt_of_lt_of_le}
use native.Mathlib.Omega.{arith}
use lib.Dec.{T, eqb}
use lib.Bits.{bit_xor, xor_lt, xor_shifted}
use lib.Pow.{pow-add, pow_mono}
use borrow.Author.Tests.{eq-eqb}
use Rattle.document.specs.CheckSum.{shifted, shifts}
use Rattle.modbus_check_sums.proofs.ExclusiveOr.{xor_cancel_left}
use Rattle.modbus_check_sums.proofs.Shifts.{shifts_xor, shifts_up}
use Rattle.modbus_check_sums.proofs.Words.{word_shifts, word_gone}
use Rattle.modbus_check_sums.proofs.Damage.{still_gone, moved_down}

-- none of the n registers from r on is 1
abbrev never_one : ℕ → ℕ → Bool
never_one zero r = true
never_one (suc n) r = not (eqb r 1) && never_one n (shifted r)

never_first : (hit rest : Bool) → T (not hit && rest) → hit ≡ true → ⊥
never_first true rest never e = never
never_first false rest never e = false≢true e

never_rest : (hit rest : Bool) → T (not hit && rest) → T rest
never_rest true rest never = absurd never
never_rest false rest never = never

never_at : (n r d : ℕ) → T (never_one n r) → d < n → shifts d r ≢ 1
unfolding shifts
never_at zero r d never h e = omega arith
never_at (suc n) r zero never h e = never_first (eqb r 1) (never_one n (shifted r)) never (eq-eqb r 1 e)
never_at (suc n) r (suc d) never h e = never_at n (shifted r) d (never_rest (eqb r 1) (never_one n (shifted r)) never) (omega arith) e

-- the bits of 256 bytes
no_return : T (never_one 2047 (shifted 1))
unfolding shifted
no_return = tt

-- two bits d places apart that are shifted out to nothing: the lower one has come to where the upper one stood
returned : (n d : ℕ) → 0 < d → shifts n (2 ^ d + 1) ≡ 0 → shifts d 1 ≡ 1
returned n d h e =
    let one : 1 < 2 ^ d = lt_of_lt_of_le (omega arith) (pow_mono {i = 1} {j = d} h) in
    let sum : 1 * 2 ^ d + 1 ≡ 2 ^ d + 1 = omega arith in
    let met : shifts d (2 ^ d + 1) ≡ bit_xor 1 (shifts d 1) =
    ap (λ (x : ℕ). shifts d x) (sym (xor_shifted 1 d 1 one ∙ sum))
    ∙ shifts_xor d (1 * 2 ^ d) 1
    ∙ ap (λ (x : ℕ). bit_xor x (shifts d 1)) (shifts_up d 1)
    in
    let fits : bit_xor 1 (shifts d 1) < 65536 = xor_lt 16 1 (shifts d 1) (omega arith) (word_shifts d 1 (omega arith)) in
    xor_cancel_left (shifts d 1) 1 1
    (word_gone n (bit_xor 1 (shifts d 1)) fits (ap (λ (x : ℕ). shifts n x) (sym met) ∙ still_gone n d (2 ^ d + 1) e))

apart : (n d : ℕ) → d < 2048 → 0 < d → shifts n (2 ^ d + 1) ≢ 0
unfolding shifts
apart n zero h some e = omega arith
apart n (suc d) h some e = never_at 2047 (shifted 1) d no_return (omega arith) (returned n (suc d) some e)

pub two_not_gone : (n i j : ℕ) → i < j → j < 2048 → shifts n (2 ^ i + 2 ^ j) ≢ 0
two_not_gone n i j h k e =
    let back : j ≡ (j - i) + i = omega arith in
    let power : 2 ^ j ≡ 2 ^ (j - i) * 2 ^ i = ap (λ (m : ℕ). 2 ^ m) back ∙ pow-add 2 (j - i) i in
    let moved : 2 ^ i + 2 ^ j ≡ (2 ^ (j - i) + 1) * 2 ^ i = omega arith in
    apart n (j - i) (omega arith) (omega arith)
    (moved_down n i (2 ^ (j - i) + 1) (ap (λ (x : ℕ). shifts n x) (sym moved) ∙ e))
