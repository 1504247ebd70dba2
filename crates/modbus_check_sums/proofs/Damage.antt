-- What goes unnoticed is shifted out to nothing; so of damage only the flipped bits matter.
use mathlib.Core.Path.{◌≡◌, sym, ap, ap₂, ◌∙◌}
use mathlib.Core.List.{List}
use Prim.Native.Nat.{ℕ, ◌*◌, ◌^◌, ◌<◌}
use lib.Bits.{bit_xor, xor_lt, xor_self}
use lib.ListN.{length}
use Rattle.document.specs.Bytes.{AllBytes}
use Rattle.document.specs.Values.{number}
use Rattle.document.specs.CheckSum.{shifts, register_after, check_sum}
use Rattle.modbus_check_sums.specs.Flips.{flips}
use Rattle.modbus_check_sums.proofs.ExclusiveOr.{xor_cross}
use Rattle.modbus_check_sums.proofs.Shifts.{shifts_xor, shifts_swap, shifts_nothing, shifts_up}
use Rattle.modbus_check_sums.proofs.Registers.{register_shifts, number_fits}

-- from any register on
unnoticed_from : (r : ℕ) (sent got : List ℕ) → AllBytes sent → AllBytes got → length got ≡ length sent → register_after r sent ≡ register_after r got
    → shifts (length sent * 8) (flips sent got) ≡ 0
unnoticed_from r sent got bs bg l e =
    let n : ℕ = length sent * 8 in
    let both : bit_xor (bit_xor r (number sent)) (bit_xor r (number got)) ≡ flips sent got =
    xor_cross r (number sent) r (number got) ∙ ap (λ (x : ℕ). bit_xor x (flips sent got)) (xor_self r)
    in
    let second : register_after r got ≡ shifts (length sent * 8) (bit_xor r (number got)) =
    register_shifts got r bg ∙ ap (λ (k : ℕ). shifts (k * 8) (bit_xor r (number got))) l
    in
    ap (λ (x : ℕ). shifts n x) (sym both)
    ∙ shifts_xor n (bit_xor r (number sent)) (bit_xor r (number got))
    ∙ ap₂ (λ (x y : ℕ). bit_xor x y) (sym (register_shifts sent r bs) ∙ e) (sym second)
    ∙ xor_self (register_after r got)

pub unnoticed : (sent got : List ℕ) → AllBytes sent → AllBytes got → length got ≡ length sent → check_sum sent ≡ check_sum got
    → shifts (length sent * 8) (flips sent got) ≡ 0
unfolding check_sum
unnoticed = unnoticed_from 0xFFFF

pub flips_fit : (sent got : List ℕ) → AllBytes sent → AllBytes got → length got ≡ length sent → flips sent got < 2 ^ (length sent * 8)
flips_fit sent got bs bg l =
    xor_lt (length sent * 8) (number sent) (number got) (number_fits sent bs) (rw l at (number_fits got bg))

-- what is shifted out to nothing is so after further shifts too
pub still_gone : (n k x : ℕ) → shifts n x ≡ 0 → shifts n (shifts k x) ≡ 0
still_gone n k x e = shifts_swap n k x ∙ ap (λ (y : ℕ). shifts k y) e ∙ shifts_nothing k

-- and k places further down
pub moved_down : (n k x : ℕ) → shifts n (x * 2 ^ k) ≡ 0 → shifts n x ≡ 0
moved_down n k x e = ap (λ (y : ℕ). shifts n y) (sym (shifts_up k x)) ∙ still_gone n k (x * 2 ^ k) e
