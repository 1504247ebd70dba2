-- What a frame without exception 3 is long enough for.
use mathlib.Core.Path.{◌≡◌, sym}
use mathlib.Core.Bool.{false, false≢true, not, ◌||◌}
use mathlib.Core.List.{List}
use Prim.Native.Nat.{ℕ, ◌+◌, ◌*◌, ◌≤◌}
use native.Mathlib.Omega.{arith}
use borrow.Author.Tests.{ltb-false, eqb-true, not-false}
use lib.Dec.{eqb, ltb}
use lib.ListN.{length}
use Rattle.document.specs.Frames.{quantity_in, byte_count_in}
use Rattle.document.specs.Modbus.{is_other, is_quantity_wrong, is_length_wrong, is_value_wrong}
use Rattle.document.specs.declared.Function.{Function}
use Rattle.document.specs.declared.Function.TheVariants.{ReadRegisters, WriteRegister, WriteRegisters, MaskRegister, Other}
use Rattle.document.proofs.Cases.{none_of}

length_right_lem : (n : ℕ) (frame : List ℕ) → is_length_wrong n frame ≡ false → length frame ≡ n
length_right_lem n frame right = eqb-true (length frame) n (not-false (eqb (length frame) n) right)

pub reading_right_lem : (frame : List ℕ) → is_value_wrong ReadRegisters frame ≡ false → (length frame ≡ 8) × (quantity_in frame ≤ 125)
reading_right_lem frame right =
    let parts = none_of (is_length_wrong 8 frame) (is_quantity_wrong 125 frame) right in
    (length_right_lem 8 frame parts.0, ltb-false 125 (quantity_in frame) (none_of (ltb (quantity_in frame) 1) (ltb 125 (quantity_in frame)) parts.1).1)

pub register_right : (frame : List ℕ) → is_value_wrong WriteRegister frame ≡ false → length frame ≡ 8
register_right frame right = length_right_lem 8 frame right

pub writing_right : (frame : List ℕ) → is_value_wrong WriteRegisters frame ≡ false → (length frame ≡ 9 + byte_count_in frame) × (byte_count_in frame ≡ 2 * quantity_in frame)
writing_right frame right =
    let parts = none_of (is_length_wrong (9 + byte_count_in frame) frame || is_quantity_wrong 123 frame) (not (eqb (byte_count_in frame) (2 * quantity_in frame))) right in (
      length_right_lem (9 + byte_count_in frame) frame (none_of (is_length_wrong (9 + byte_count_in frame) frame) (is_quantity_wrong 123 frame) parts.0).0,
      eqb-true (byte_count_in frame) (2 * quantity_in frame) (not-false (eqb (byte_count_in frame) (2 * quantity_in frame)) parts.1),
    )

pub mask_right : (frame : List ℕ) → is_value_wrong MaskRegister frame ≡ false → length frame ≡ 10
mask_right frame right = length_right_lem 10 frame right

pub long_enough : (function : Function) (frame : List ℕ) → is_other function ≡ false → is_value_wrong function frame ≡ false → 8 ≤ length frame
long_enough ReadRegisters frame served right = omega (arith, reading_right_lem frame right)
long_enough WriteRegister frame served right = omega (arith, register_right frame right)
long_enough WriteRegisters frame served right = omega (arith, writing_right frame right)
long_enough MaskRegister frame served right = omega (arith, mask_right frame right)
long_enough Other frame served right = absurd (false≢true (sym served))
