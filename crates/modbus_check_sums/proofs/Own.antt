-- Bytes with their own check sum behind them leave 0, and no other two bytes behind them do.
use mathlib.Core.Path.{◌≡◌, sym, ap, ◌∙◌}
use mathlib.Core.List.{List}
use Prim.Native.Nat.{ℕ, ◌-◌, ◌*◌, ◌<◌, ◌≤◌}
use native.Mathlib.Omega.{arith}
use borrow.Author.Tests.{ne_eqb, eqb-true, eqb-false}
use lib.Bits.{bit_xor, xor_self}
use lib.Dec.{eqb}
use lib.ListN.{length, take, drop, take-append-drop, length-drop}
use Rattle.document.specs.Bytes.{AllBytes}
use Rattle.document.specs.Values.{number, little_endian}
use Rattle.document.specs.CheckSum.{shifts, register_after, check_sum, with_check_sum, is_check_sum_right}
use Rattle.document.proofs.Bytes.{all_take, all_drop}
use Rattle.document.proofs.Cases.{split}
use Rattle.document.proofs.Values.{number_back}
use Rattle.modbus_check_sums.proofs.ExclusiveOr.{xor_cancel}
use Rattle.modbus_check_sums.proofs.Shifts.{shifts_nothing}
use Rattle.modbus_check_sums.proofs.Words.{word_xor, word_gone}
use Rattle.modbus_check_sums.proofs.Registers.{register_append, check_sum_word, register_shifts, number_fits}

-- ---- two bytes behind a register

-- as a number they are the register: nothing is left
same_leaves_0 : (r : ℕ) (two : List ℕ) → AllBytes two → number two ≡ r → register_after r two ≡ 0
same_leaves_0 r two bytes e =
    register_shifts two r bytes
    ∙ ap (λ (x : ℕ). shifts (length two * 8) (bit_xor r x)) e
    ∙ ap (λ (x : ℕ). shifts (length two * 8) x) (xor_self r)
    ∙ shifts_nothing (length two * 8)

-- where nothing is left, they are
only_same : (r : ℕ) (two : List ℕ) → AllBytes two → length two ≡ 2 → r < 65536 → register_after r two ≡ 0 → number two ≡ r
only_same r two bytes l h e =
    let fits : number two < 65536 = rw l at (number_fits two bytes) in
    let gone : bit_xor r (number two) ≡ 0 =
    word_gone (length two * 8) (bit_xor r (number two)) (word_xor r (number two) h fits) (sym (register_shifts two r bytes) ∙ e)
    in
    sym (xor_cancel r (number two) (number two) (gone ∙ sym (xor_self (number two))))

-- ---- behind other bytes

pub own_check_sum_leaves_0 : (bytes : List ℕ) → AllBytes bytes → check_sum (with_check_sum bytes) ≡ 0
unfolding check_sum
own_check_sum_leaves_0 bs bytes =
    let s : ℕ = register_after 0xFFFF bs in
    register_append bs (little_endian 2 s) 0xFFFF
    ∙ same_leaves_0 s (little_endian 2 s) (omega arith, (omega arith, tt)) (number_back 2 s (check_sum_word bs bytes))

-- one run over the whole frame tells whether its check sum is right
pub right_leaves_0 : (frame : List ℕ) → AllBytes frame → 2 ≤ length frame → is_check_sum_right frame ≡ eqb (check_sum frame) 0
unfolding check_sum
right_leaves_0 frame bytes h =
    let n : ℕ = length frame - 2 in
    let two : List ℕ = drop (length frame - 2) frame in
    let s : ℕ = check_sum (take (length frame - 2) frame) in
    let short : length (drop (length frame - 2) frame) ≡ 2 = length-drop (length frame - 2) frame ∙ omega arith in
    let parts : check_sum frame ≡ register_after s two =
    ap check_sum (sym (take-append-drop n frame)) ∙ register_append (take n frame) two 0xFFFF
    in
    split (eqb (number two) s)
    (λ same. same ∙ sym (ap (λ (x : ℕ). eqb x 0) (parts ∙ same_leaves_0 s two (all_drop n frame bytes) (eqb-true (number two) s same))))
    (λ other.
    other
    ∙ sym (ne_eqb (check_sum frame) 0
    (λ left. eqb-false (number two) s other
    (only_same s two (all_drop n frame bytes) short (check_sum_word (take n frame) (all_take n frame bytes)) (sym parts ∙ left)))))
