-- Function by function: without an exception the range of a write lies inside the memory.
use mathlib.Core.Path.{◌≡◌, ap, ap₂, ◌∙◌}
use mathlib.Core.List.{List}
use Prim.Native.Nat.{ℕ, ◌+◌, ◌-◌, ◌*◌, ◌≤◌}
use native.Mathlib.Omega.{arith}
use lib.ListN.{length, take, drop, length-drop}
use lib.Seq.{length-take-le}
use borrow.Author.Rules.{rules}
use Rattle.document.specs.Areas.{memory_end, bytes_at}
use Rattle.document.specs.Stores.{stored}
use Rattle.document.specs.Registers.{turned}
use Rattle.document.specs.Numbers.{done}
use Rattle.document.specs.Frames.{first_in}
use Rattle.document.specs.Modbus.{exception_to}
use Rattle.document.specs.declared.Function.{Function}
use Rattle.document.specs.declared.Function.TheVariants.{WriteRegister, WriteRegisters, MaskRegister}
use Rattle.document.proofs.Bytes.{all_of_bytes}
use Rattle.modbus_frames.proofs.Order.{accepted_long}
use Rattle.modbus_functions.proofs.Masked.{masked_so}
use Rattle.modbus_functions.proofs.Carried.{none_as, carried_as, OneFits, SeveralFit, one_written, one_masked, several_written, values_between, values_length}
use Rattle.modbus_functions.proofs.carrying.carry_out.Goals as goal

-- ---- a frame without exception, and the memory it writes to
module _ (function : Function) (frame memory : List ℕ) (whole : length memory ≡ memory_end) (none : exception_to function frame memory ≡ done) where
  one : function ≡ WriteRegister → OneFits frame memory whole 8
  one is = one_written frame memory whole (none_as is frame memory none)

  several : function ≡ WriteRegisters → SeveralFit frame memory whole
  several is = several_written frame memory whole (none_as is frame memory none)

  masked : function ≡ MaskRegister → OneFits frame memory whole 10
  masked is = one_masked frame memory whole (none_as is frame memory none)

  long : 8 ≤ length frame
  long = accepted_long function frame memory none

  -- ---- what is written from the first register on ends inside the memory
  module _ (at : ℕ) (first : at ≡ first_in frame) where
    one_room : function ≡ WriteRegister → 2 * at + length (bytes_at frame 4 2) ≤ length memory
    one_room is =
        let fit = one is in
        let two : length (bytes_at frame 4 2) ≡ 2 = length-take-le 2 (drop 4 frame) (rw length-drop (omega (arith, long))) in
        omega (arith, fit.room, first, two)

    several_room : function ≡ WriteRegisters → 2 * at + length (take (length frame - 2 - 7) (drop 7 frame)) ≤ length memory
    several_room is =
        let fit = several is in
        omega (arith, fit.room, first, ap length (values_between frame memory whole fit), values_length frame memory whole fit)

    masked_room : function ≡ MaskRegister → 2 * at + 2 ≤ length memory
    masked_room is = let fit = masked is in omega (arith, fit.room, first)

-- ---- the first register is read

pub word_in-requires : goal.word_in-requires
word_in-requires c =
    omega (arith, long c.args.function c.args.frame.now c.args.memory.now c.requires.1 c.requires.0)

-- ---- one register is written

pub slice_bounds-copy_swapped-end : goal.slice_bounds-copy_swapped-end
slice_bounds-copy_swapped-end c =
    omega (arith, long c.args.function c.args.frame.now c.args.memory.now c.requires.1 c.requires.0)

pub copy_swapped-requires : goal.copy_swapped-requires
copy_swapped-requires c =
    let a = c.args in
    omega (arith, one_room a.function a.frame.now a.memory.now c.requires.1 c.requires.0 c.from-at.result (c.from-at.ensures ∙ c.word_in.ensures.0) c.in-WriteRegister.is)

-- ---- several

pub overflow_sub-end : goal.overflow_sub-end
overflow_sub-end c =
    omega (arith, long c.args.function c.args.frame.now c.args.memory.now c.requires.1 c.requires.0)

pub slice_bounds-copy_swapped-count-in-WriteRegisters : goal.slice_bounds-copy_swapped-count-in-WriteRegisters
slice_bounds-copy_swapped-count-in-WriteRegisters c =
    let fit = several c.args.function c.args.frame.now c.args.memory.now c.requires.1 c.requires.0 c.in-WriteRegisters.is in
    omega (arith, fit.frame_length)

pub slice_bounds-copy_swapped-start-in-WriteRegisters : goal.slice_bounds-copy_swapped-start-in-WriteRegisters
slice_bounds-copy_swapped-start-in-WriteRegisters c =
    let fit = several c.args.function c.args.frame.now c.args.memory.now c.requires.1 c.requires.0 c.in-WriteRegisters.is in
    omega (arith, fit.frame_length)

pub copy_swapped-requires-in-WriteRegisters : goal.copy_swapped-requires-in-WriteRegisters
copy_swapped-requires-in-WriteRegisters c =
    let a = c.args in
    omega (arith, several_room a.function a.frame.now a.memory.now c.requires.1 c.requires.0 c.from-at.result (c.from-at.ensures ∙ c.word_in.ensures.0) c.in-WriteRegisters.is)

-- ---- one is masked

pub word_in-kept-requires : goal.word_in-kept-requires
word_in-kept-requires c =
    omega (arith, long c.args.function c.args.frame.now c.args.memory.now c.requires.1 c.requires.0)

pub word_in-set-requires : goal.word_in-set-requires
word_in-set-requires c =
    omega (arith, long c.args.function c.args.frame.now c.args.memory.now c.requires.1 c.requires.0)

pub store_masked_word-requires : goal.store_masked_word-requires
store_masked_word-requires c =
    let a = c.args in
    omega (arith, masked_room a.function a.frame.now a.memory.now c.requires.1 c.requires.0 c.from-at.result (c.from-at.ensures ∙ c.word_in.ensures.0) c.in-MaskRegister.is)

-- ---- what is left

pub returns-in-WriteRegister : goal.returns-in-WriteRegister
returns-in-WriteRegister c =
    let frame = c.args.frame.now in
    let memory = c.args.memory.now in
    carried_as c.in-WriteRegister.is frame memory _
    (c.copy_swapped.ensures ∙ ap (λ (r : ℕ). stored memory (2 * r) (turned (bytes_at frame 4 2))) (c.from-at.ensures ∙ c.word_in.ensures.0))

pub returns-in-WriteRegisters : goal.returns-in-WriteRegisters
returns-in-WriteRegisters c =
    let frame = c.args.frame.now in
    let memory = c.args.memory.now in
    let values = values_between frame memory c.requires.1 (several c.args.function frame memory c.requires.1 c.requires.0 c.in-WriteRegisters.is) in
    carried_as c.in-WriteRegisters.is frame memory _
    (c.copy_swapped-in-WriteRegisters.ensures
    ∙ ap₂ (λ (r : ℕ) (vs : List ℕ). stored memory (2 * r) (turned vs)) (c.from-at.ensures ∙ c.word_in.ensures.0) values)

pub returns-in-MaskRegister : goal.returns-in-MaskRegister
returns-in-MaskRegister c =
    let frame = c.args.frame.now in
    let memory = c.args.memory.now in
    let fit = masked c.args.function frame memory c.requires.1 c.requires.0 c.in-MaskRegister.is in
    let kept = c.word_in-kept in
    let set = c.word_in-set in
    carried_as c.in-MaskRegister.is frame memory _
    (c.store_masked_word.ensures
    ∙ masked_so memory (c.from-at.ensures ∙ c.word_in.ensures.0) kept.ensures.0 set.ensures.0
    (all_of_bytes memory (search rules)) fit.room kept.ensures.1 set.ensures.1)
