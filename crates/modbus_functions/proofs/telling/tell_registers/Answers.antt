-- Station, function, count; the part of the memory that is turned in behind them is the registers.
use mathlib.Core.Path.{◌≡◌, ap, ◌∙◌}
use Prim.Native.Nat.{◌+◌, ◌*◌, ◌≤◌}
use native.Mathlib.Omega.{arith}
use lib.ListN.{length, length-set}
use lib.Seq.{length-sets}
use Rattle.document.specs.Frames.{first_in, quantity_in}
use Rattle.modbus_functions.proofs.Told.{registers_told}
use Rattle.modbus_functions.proofs.telling.tell_registers.Goals as goal

-- ---- both fields are read

pub shape_of-out : goal.shape_of-out
shape_of-out c = ap length c.copy_swapped.ensures ∙ simp (length-sets, length-set)

pub returns : goal.returns
returns c =
    let first : (c.from-from.result) ≡ first_in c.args.frame.now = c.from-from.ensures ∙ c.word_in.ensures.0 in
    let quantity : (c.from-count.result) ≡ quantity_in c.args.frame.now = c.from-count.ensures ∙ c.word_in-2.ensures.0 in
    let inside : 2 * (c.from-from.result) + 2 * (c.from-count.result) ≤ length (c.args.memory.now) = omega (arith, c.requires.frame_in_bounds, first, quantity) in
    let a = c.args in
    registers_told a.frame.now (c.args.memory.now) a.out.now _ (c.from-from.result) (c.from-count.result) first quantity inside c.copy_swapped.ensures
