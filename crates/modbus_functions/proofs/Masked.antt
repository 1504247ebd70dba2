-- Function 22 is the masked store of the service port, by the complement of its first mask and with the value of its second.
use mathlib.Core.Path.{◌≡◌, sym, ap, ◌∙◌}
use mathlib.Core.List.{List}
use Prim.Native.Nat.{ℕ, ◌+◌, ◌-◌, ◌*◌, ◌^◌, ◌<◌, ◌≤◌}
use native.Mathlib.Omega.{arith}
use lib.Bits.{bit_and, bit_or}
use lib.ListN.{length, drop, length-drop}
use lib.Seq.{length-take-le}
use Rattle.document.specs.Bytes.{AllBytes}
use Rattle.document.specs.Areas.{bytes_at}
use Rattle.document.specs.Values.{number, little_endian}
use Rattle.document.specs.Stores.{masked, stored, mask_stored}
use Rattle.document.specs.Registers.{masked_both, register_masked}
use Rattle.document.proofs.Bytes.{each_a_byte, all_range}
use Rattle.document.proofs.Values.{bytes_of_number}
use Rattle.modbus_check_sums.proofs.Registers.{number_fits}
use Rattle.memory_masks.proofs.Masks.{mixed_masked}
use Rattle.memory_masks.proofs.Turns.{mask_stored_number}

both_masked : (old andMask orMask : ℕ) → old < 65536 → andMask < 65536 → orMask < 65536 → masked_both old andMask orMask ≡ masked 16 old orMask (0xFFFF - andMask)
both_masked old a o ho ha hm =
    let back : (2 ^ 16 - 1) - (0xFFFF - a) ≡ a = omega arith in
    ap (λ (k : ℕ). bit_or (bit_and old k) (bit_and o (0xFFFF - a))) (sym back) ∙ mixed_masked 16 old o (0xFFFF - a) ho hm (omega arith)

pub register_masked_lem : (memory : List ℕ) (first andMask orMask : ℕ) → AllBytes memory → 2 * first + 2 ≤ length memory → andMask < 65536 → orMask < 65536
    → mask_stored memory (2 * first) (little_endian 2 orMask) (little_endian 2 (0xFFFF - andMask)) ≡ register_masked memory first andMask orMask
register_masked_lem memory first a o bytes inside ha ho =
    let two : List ℕ = bytes_at memory (2 * first) 2 in
    let all : AllBytes (bytes_at memory (2 * first) 2) = all_range memory (2 * first) 2 bytes in
    let l : length (bytes_at memory (2 * first) 2) ≡ 2 = length-take-le 2 (drop (2 * first) memory) (rw length-drop (omega arith)) in
    let old : number (bytes_at memory (2 * first) 2) < 65536 = rw l at (number_fits two all) in
    let kept : two ≡ little_endian 2 (number two) = sym (rw l at (bytes_of_number two (each_a_byte two all))) in
    mask_stored_number 2 memory (2 * first) (number two) o (0xFFFF - a) kept
    ∙ ap (λ (x : ℕ). stored memory (2 * first) (little_endian 2 x)) (sym (both_masked (number two) a o old ha ho))

-- of numbers that were read from a frame
pub masked_so : (memory : List ℕ) {first kept set : ℕ} {f a o : ℕ} → first ≡ f → kept ≡ a → set ≡ o
    → AllBytes memory → 2 * f + 2 ≤ length memory → kept < 65536 → set < 65536
    → mask_stored memory (2 * first) (little_endian 2 set) (little_endian 2 (0xFFFF - kept)) ≡ register_masked memory f a o
masked_so memory {first} {kept} {set} ef ea eo bytes inside hk hs =
    register_masked_lem memory first kept set bytes (omega arith) hk hs ∙ (λ i. register_masked memory (ef i) (ea i) (eo i))
