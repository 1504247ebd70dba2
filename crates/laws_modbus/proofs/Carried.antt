-- What a function stores: bytes, at a place below the end of the variables.
use mathlib.Core.Path.{◌≡◌, refl}
use mathlib.Core.Bool.{false, not}
use mathlib.Core.List.{List, [], ◌∷◌}
use Prim.Native.Nat.{ℕ, ◌+◌, ◌*◌, ◌≤◌}
use native.Mathlib.Omega.{arith}
use lib.ListN.{length, drop, length-take}
use Rattle.document.specs.Bytes.{AllBytes}
use Rattle.document.specs.Numbers.{done}
use Rattle.document.specs.Areas.{variables_end, bytes_at}
use Rattle.document.specs.Values.{number, little_endian}
use Rattle.document.specs.Stores.{stored}
use Rattle.document.specs.Gate.{fresh}
use Rattle.document.specs.Permission.{may_be_written}
use Rattle.document.specs.Registers.{turned, masked_both}
use Rattle.document.specs.Frames.{first_in, quantity_in, word_in}
use Rattle.document.specs.Modbus.{exception_to, carried_out}
use Rattle.document.specs.declared.Function.{Function}
use Rattle.document.specs.declared.Function.TheVariants.{ReadRegisters, WriteRegister, WriteRegisters, MaskRegister, Other}
use Rattle.document.proofs.Bytes.{all_range}
use Rattle.modbus_registers.proofs.Turns.{turned_short}
use Rattle.modbus_frames.proofs.WrongAddresses.{writes_below}
use Rattle.modbus_frames.proofs.Order.{accepted}

-- a store of bytes below the end of the variables, or none
pub record Stored (frame memory left : List ℕ) : Type 0 where
  pub at : ℕ
  pub values : List ℕ
  pub stores : left ≡ stored memory at values
  pub below : at + length values ≤ variables_end
  pub bytes : AllBytes frame → AllBytes values

all_turned : (l : List ℕ) → AllBytes l → AllBytes (turned l)
all_turned [] all = tt
all_turned (a ∷ []) all = tt
all_turned (a ∷ b ∷ l) all = (all.1.0, (all.0, all_turned l all.1.1))

module _ (frame memory : List ℕ) where
  pub nothing_stored : Stored frame memory memory
  nothing_stored = record { at = 0; values = []; stores = refl; below = omega arith; bytes = λ all. tt }

  -- registers from a place of the frame on
  registers_stored_lem : (place size : ℕ) → not (may_be_written (fresh memory) (2 * first_in frame) size) ≡ false
      → Stored frame memory (stored memory (2 * first_in frame) (turned (bytes_at frame place size)))
  registers_stored_lem place size may =
      let part : List ℕ = bytes_at frame place size in
      record {
        at = 2 * first_in frame;
        values = turned part;
        stores = refl;
        below = omega (arith, writes_below frame memory size may, turned_short part, length-take size (drop place frame));
        bytes = λ all. all_turned part (all_range frame place size all);
      }

  pub carried_stored : (function : Function) → exception_to function frame memory ≡ done → Stored frame memory (carried_out function frame memory)
  carried_stored ReadRegisters none = nothing_stored
  carried_stored WriteRegister none = registers_stored_lem 4 2 (accepted WriteRegister frame memory none).address
  carried_stored WriteRegisters none = registers_stored_lem 7 (2 * quantity_in frame) (accepted WriteRegisters frame memory none).address
  carried_stored MaskRegister none =
      record {
        at = 2 * first_in frame;
        values = little_endian 2 (masked_both (number (bytes_at memory (2 * first_in frame) 2)) (word_in frame 4) (word_in frame 6));
        stores = refl;
        below = writes_below frame memory 2 (accepted MaskRegister frame memory none).address;
        bytes = λ all. (omega arith, (omega arith, tt));
      }
  carried_stored Other none = nothing_stored
