-- Function by function; without an exception the fields are there, and the registers inside the memory.
use mathlib.Core.Path.{◌≡◌}
use mathlib.Core.Logic.{◌⊎◌, inl, inr}
use mathlib.Core.List.{List, ◌∷◌}
use Prim.Native.Nat.{ℕ, ◌≤◌}
use native.Mathlib.Omega.{arith}
use lib.ListN.{length}
use Rattle.document.specs.Areas.{bytes_at}
use Rattle.document.specs.Frames.{station_in, function_byte}
use Rattle.document.specs.declared.Function.{Function}
use Rattle.document.specs.declared.Function.TheVariants.{ReadRegisters, WriteRegister, WriteRegisters}
use Rattle.modbus_frames.proofs.WrongValues.{reading_right_lem}
use Rattle.modbus_frames.proofs.Order.{accepted, accepted_long}
use Rattle.modbus_functions.proofs.Carried.{none_as}
use Rattle.modbus_functions.proofs.Told.{front_told, told_as, reads_inside}
use Rattle.modbus_functions.specs.Put.{answer_to, Put}
use Rattle.modbus_functions.proofs.telling.tell.Goals as goal

-- one register or several written: two fields again
two_fields : (f : Function) → (f ≡ WriteRegister) ⊎ (f ≡ WriteRegisters) → (frame memory out after : List ℕ) (r : ℕ)
    → Put (station_in frame ∷ function_byte frame ∷ bytes_at frame 2 4) out r after → Put (answer_to f frame memory) out r after
two_fields f (inl one) frame memory out after r p = told_as one frame memory out after r p
two_fields f (inr several) frame memory out after r p = told_as several frame memory out after r p

pub tell_front-requires : goal.tell_front-requires
tell_front-requires c =
    let long : 8 ≤ length c.args.frame.now = accepted_long c.args.function c.args.frame.now c.args.memory.now c.requires.0 in
    (omega (arith, long), omega (arith, c.requires.2))

pub tell_front-requires-in-MaskRegister : goal.tell_front-requires-in-MaskRegister
tell_front-requires-in-MaskRegister c =
    let long : 8 ≤ length c.args.frame.now = accepted_long c.args.function c.args.frame.now c.args.memory.now c.requires.0 in
    (omega (arith, long), omega (arith, c.requires.2))

pub tell_front-requires-in-Other : goal.tell_front-requires-in-Other
tell_front-requires-in-Other c =
    let long : 8 ≤ length c.args.frame.now = accepted_long c.args.function c.args.frame.now c.args.memory.now c.requires.0 in
    (omega (arith, long), omega (arith, c.requires.2))

pub tell_registers-requires-clause-in_bounds : goal.tell_registers-requires-clause-in_bounds
tell_registers-requires-clause-in_bounds c =
    let frame = c.args.frame.now in
    let memory = c.args.memory.now in
    let none = none_as c.in-ReadRegisters.is frame memory c.requires.0 in
    let right = reading_right_lem frame (accepted ReadRegisters frame memory none).value in
    (omega (arith, right.0), right.1, c.requires.2)

pub tell_registers-requires-clause-frame_in_bounds : goal.tell_registers-requires-clause-frame_in_bounds
tell_registers-requires-clause-frame_in_bounds c =
    let frame = c.args.frame.now in
    let memory = c.args.memory.now in
    let none = none_as c.in-ReadRegisters.is frame memory c.requires.0 in
    omega (arith, reads_inside frame memory none, c.requires.1)

pub returns-in-MaskRegister : goal.returns-in-MaskRegister
returns-in-MaskRegister c =
    let long : 8 ≤ length c.args.frame.now = accepted_long c.args.function c.args.frame.now c.args.memory.now c.requires.0 in
    let a = c.args in
    told_as c.in-MaskRegister.is a.frame.now a.memory.now a.out.now _ _ (front_told 6 a.frame.now a.out.now _ _ (omega (arith, long)) c.tell_front-in-MaskRegister.ensures)

pub returns-in-Other : goal.returns-in-Other
returns-in-Other c =
    let long : 8 ≤ length c.args.frame.now = accepted_long c.args.function c.args.frame.now c.args.memory.now c.requires.0 in
    let a = c.args in
    told_as c.in-Other.is a.frame.now a.memory.now a.out.now _ _ (front_told 0 a.frame.now a.out.now _ _ (omega (arith, long)) c.tell_front-in-Other.ensures)

pub returns-in-WriteRegister : goal.returns-in-WriteRegister
returns-in-WriteRegister c =
    let long : 8 ≤ length c.args.frame.now = accepted_long c.args.function c.args.frame.now c.args.memory.now c.requires.0 in
    let a = c.args in
    two_fields a.function c.in-WriteRegister.is a.frame.now a.memory.now a.out.now _ _ (front_told 4 a.frame.now a.out.now _ _ (omega (arith, long)) c.tell_front.ensures)
