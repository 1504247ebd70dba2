-- What a write without exception may rely on.
use mathlib.Core.Path.{◌≡◌, sym, ap, ◌∙◌}
use mathlib.Core.Bool.{false, not}
use mathlib.Core.List.{List}
use Prim.Native.Nat.{ℕ, ◌+◌, ◌-◌, ◌*◌, ◌≤◌}
use native.Mathlib.Omega.{arith}
use lib.ListN.{length, take, drop, length-drop}
use lib.Seq.{length-take-le}
use Rattle.document.specs.Areas.{memory_end, bytes_at}
use Rattle.document.specs.Gate.{fresh}
use Rattle.document.specs.Permission.{may_be_written}
use Rattle.document.specs.Numbers.{done}
use Rattle.document.specs.Frames.{first_in, quantity_in}
use Rattle.document.specs.Modbus.{exception_to, carried_out}
use Rattle.document.specs.declared.Function.{Function}
use Rattle.document.specs.declared.Function.TheVariants.{WriteRegister, WriteRegisters, MaskRegister}
use Rattle.modbus_frames.proofs.WrongValues.{register_right, writing_right, mask_right}
use Rattle.modbus_frames.proofs.WrongAddresses.{writes_below}
use Rattle.modbus_frames.proofs.Order.{accepted}

-- by the function that a frame asks for
pub none_as : {f g : Function} → f ≡ g → (frame memory : List ℕ) → exception_to f frame memory ≡ done → exception_to g frame memory ≡ done
none_as same frame memory none = sym (ap (λ (f : Function). exception_to f frame memory) same) ∙ none

pub carried_as : {f g : Function} → f ≡ g → (frame memory left : List ℕ) → left ≡ carried_out g frame memory → left ≡ carried_out f frame memory
carried_as same frame memory left e = e ∙ sym (ap (λ (f : Function). carried_out f frame memory) same)

-- as many bytes as are written end inside the memory
module _ (frame memory : List ℕ) (whole : length memory ≡ memory_end) where
  inside : (size : ℕ) → not (may_be_written (fresh memory) (2 * first_in frame) size) ≡ false → 2 * first_in frame + size ≤ length memory
  inside size may = omega (arith, writes_below frame memory size may)

  pub record OneFits (n : ℕ) : Type 0 where
    pub frame_length : length frame ≡ n
    pub room : 2 * first_in frame + 2 ≤ length memory

  pub one_written : exception_to WriteRegister frame memory ≡ done → OneFits 8
  one_written none =
      let ok = accepted WriteRegister frame memory none in
      record { frame_length = register_right frame ok.value; room = inside 2 ok.address }

  pub one_masked : exception_to MaskRegister frame memory ≡ done → OneFits 10
  one_masked none =
      let ok = accepted MaskRegister frame memory none in
      record { frame_length = mask_right frame ok.value; room = inside 2 ok.address }

  pub record SeveralFit : Type 0 where
    pub frame_length : length frame ≡ 9 + 2 * quantity_in frame
    pub room : 2 * first_in frame + 2 * quantity_in frame ≤ length memory

  pub several_written : exception_to WriteRegisters frame memory ≡ done → SeveralFit
  several_written none =
      let ok = accepted WriteRegisters frame memory none in
      let right = writing_right frame ok.value in
      record { frame_length = right.0 ∙ ap (λ (n : ℕ). 9 + n) right.1; room = inside (2 * quantity_in frame) ok.address }

  -- the values are what stands between the fields and the check sum
  pub values_between : SeveralFit → take (length frame - 2 - 7) (drop 7 frame) ≡ bytes_at frame 7 (2 * quantity_in frame)
  values_between fit =
      let n : length frame - 2 - 7 ≡ 2 * quantity_in frame = omega (arith, fit.frame_length) in
      ap (λ (k : ℕ). take k (drop 7 frame)) n

  pub values_length : SeveralFit → length (bytes_at frame 7 (2 * quantity_in frame)) ≡ 2 * quantity_in frame
  values_length fit = length-take-le (2 * quantity_in frame) (drop 7 frame) (rw length-drop (omega (arith, fit.frame_length)))
