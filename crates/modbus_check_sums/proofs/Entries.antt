-- The table's rule: the entry of a low byte is what eight shifts make of it. A step then takes one look.
use mathlib.Core.Path.{◌≡◌, sym, ap, ◌∙◌}
use Prim.Native.Nat.{ℕ, ◌/◌, ◌%◌, ◌<◌}
use native.Mathlib.Omega.{arith}
use lib.ListN.{get_or}
use lib.Bits.{bit_xor, xor_shr, xor_zero_r}
use Rattle.document.specs.CheckSum.{shifts, stepped}
use Rattle.codes_table.proofs.Entries.{values_from, entry_at}
use Rattle.modbus_check_sums.proofs.Shifts.{shifts_parts}

stepped_low : (r b : ℕ) → b < 256 → stepped r b ≡ bit_xor (r / 256) (shifts 8 (bit_xor r b % 256))
unfolding stepped
stepped_low r b h =
    let none : b / 256 ≡ 0 = omega arith in
    shifts_parts 8 (bit_xor r b)
    ∙ ap (λ (x : ℕ). bit_xor x (shifts 8 (bit_xor r b % 256)))
    (xor_shr r b 8 ∙ ap (λ (x : ℕ). bit_xor (r / 256) x) none ∙ xor_zero_r (r / 256))

-- with a look at the table
pub stepped_entry : (r b low : ℕ) → b < 256 → low ≡ bit_xor r b % 256 → bit_xor (r / 256) (get_or (values_from (shifts 8) 0 256) low 0) ≡ stepped r b
stepped_entry r b low h e =
    ap (λ (x : ℕ). bit_xor (r / 256) x) (entry_at (shifts 8) 0 256 low (omega arith) ∙ ap (shifts 8) e) ∙ sym (stepped_low r b h)
