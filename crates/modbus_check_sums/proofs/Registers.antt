-- The register over bytes: a word throughout, and with its bytes it is so many shifts of one number.
use mathlib.Core.Path.{◌≡◌, refl, sym, ap, ◌∙◌}
use mathlib.Core.List.{List, [], ◌∷◌, ◌++◌}
use Prim.Native.Nat.{ℕ, suc, ◌+◌, ◌*◌, ◌^◌, ◌<◌}
use native.Mathlib.Omega.{arith}
use lib.Bits.{bit_xor, xor_zero_r}
use lib.Pow.{pow-add}
use lib.ListN.{length}
use Rattle.document.specs.Bytes.{AllBytes}
use Rattle.document.specs.Values.{number}
use Rattle.document.specs.CheckSum.{shifts, stepped, register_after, check_sum}
use Rattle.modbus_check_sums.proofs.Shifts.{shifts_add, joined}
use Rattle.modbus_check_sums.proofs.Words.{word_stepped}

pub register_append : (xs ys : List ℕ) (r : ℕ) → register_after r (xs ++ ys) ≡ register_after (register_after r xs) ys
register_append [] ys r = refl
register_append (x ∷ xs) ys r = register_append xs ys (stepped r x)

register_word : (bs : List ℕ) (r : ℕ) → AllBytes bs → r < 65536 → register_after r bs < 65536
register_word [] r bytes h = h
register_word (b ∷ bs) r bytes h = register_word bs (stepped r b) bytes.1 (word_stepped r b h bytes.0)

pub check_sum_word : (bs : List ℕ) → AllBytes bs → check_sum bs < 65536
unfolding check_sum
check_sum_word bs bytes = register_word bs 0xFFFF bytes (omega arith)

pub register_shifts : (bs : List ℕ) (r : ℕ) → AllBytes bs → register_after r bs ≡ shifts (length bs * 8) (bit_xor r (number bs))
unfolding shifts
register_shifts [] r bytes = sym (xor_zero_r r)
register_shifts (b ∷ bs) r bytes =
    let all : ℕ = bit_xor r (b + 256 * number bs) in
    let more : 8 + length bs * 8 ≡ suc (length bs) * 8 = omega arith in
    register_shifts bs (stepped r b) bytes.1
    ∙ ap (λ (x : ℕ). shifts (length bs * 8) x) (joined r b (number bs) bytes.0)
    ∙ sym (shifts_add 8 (length bs * 8) all)
    ∙ ap (λ (n : ℕ). shifts n all) more

pub number_fits : (bs : List ℕ) → AllBytes bs → number bs < 2 ^ (length bs * 8)
number_fits [] bytes = omega arith
number_fits (b ∷ bs) bytes =
    let more : suc (length bs) * 8 ≡ length bs * 8 + 8 = omega arith in
    rw (more, pow-add 2 (length bs * 8) 8) (omega (arith, number_fits bs bytes.1))
