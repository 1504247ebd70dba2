-- What a frame that is not silenced is answered with is short.
use mathlib.Core.Path.{◌≡◌, ap}
use mathlib.Core.List.{List, ◌∷◌}
use Prim.Native.Nat.{ℕ, ◌+◌, ◌*◌, ◌≤◌}
use native.Mathlib.Omega.{arith}
use borrow.Author.Tests.{eqb-true}
use lib.Dec.{eqb}
use lib.ListN.{length, drop, length-take}
use lib.Seq.{length-sets}
use Rattle.document.specs.Numbers.{done}
use Rattle.document.specs.Areas.{bytes_at}
use Rattle.document.specs.Frames.{station_in, first_in, quantity_in}
use Rattle.document.specs.Modbus.{function_in, exception_to, function_data, answer_to, modbus_room}
use Rattle.document.specs.declared.Function.{Function}
use Rattle.document.specs.declared.Function.TheVariants.{ReadRegisters, WriteRegister, WriteRegisters, MaskRegister, Other}
use Rattle.document.proofs.Cases.{split}
use Rattle.modbus_registers.proofs.Turns.{turned_short}
use Rattle.modbus_frames.proofs.WrongValues.{reading_right_lem}
use Rattle.modbus_frames.proofs.Order.{accepted}
use Rattle.call_modbus.specs.Responded.{Responded}

range_short : (l : List ℕ) (at n : ℕ) → length (bytes_at l at n) ≤ n
range_short l at n = omega (arith, length-take n (drop at l))

told_short : (f : Function) (frame memory : List ℕ) → exception_to f frame memory ≡ done → length (function_data f frame memory) ≤ 251
told_short ReadRegisters frame memory none =
    let part : List ℕ = bytes_at memory (2 * first_in frame) (2 * quantity_in frame) in
    omega (arith, reading_right_lem frame (accepted ReadRegisters frame memory none).value, turned_short part, range_short memory (2 * first_in frame) (2 * quantity_in frame))
told_short WriteRegister frame memory none = omega (arith, range_short frame 2 4)
told_short WriteRegisters frame memory none = omega (arith, range_short frame 2 4)
told_short MaskRegister frame memory none = omega (arith, range_short frame 2 6)
told_short Other frame memory none = omega arith

pub answer_short : (frame memory : List ℕ) → length (station_in frame ∷ answer_to (exception_to (function_in frame) frame memory) frame memory) ≤ 254
answer_short frame memory =
    let x : ℕ = exception_to (function_in frame) frame memory in
    split (eqb x done)
    (λ none. rw none (omega (arith, told_short (function_in frame) frame memory (eqb-true x done none))))
    (λ some. rw some (omega arith))

-- so the check sum has room behind it
pub room_left : (frame memory out left after : List ℕ) (n : ℕ) → modbus_room ≤ length out → Responded frame memory out n left after → n + 2 ≤ length after
room_left frame memory out left after n room r =
    let bytes : List ℕ = station_in frame ∷ answer_to (exception_to (function_in frame) frame memory) frame memory in
    omega (arith, r.answer.length, answer_short frame memory, ap length r.answer.buffer, length-sets out 0 bytes)
