-- One byte behind the other.
use mathlib.Core.List.{[], ◌∷◌}
use Prim.Native.Nat.{◌/◌, ◌%◌}
use native.Mathlib.Omega.{arith}
use Rattle.line_wire.proofs.Stuffed.{stuffed_one}
use Rattle.line_wire.proofs.Writing.{put_append}
use Rattle.line_wire.proofs.doubling.put_word.Goals as goal

pub put-low-requires : goal.put-low-requires
put-low-requires c =
    let s = c.before.before in
    omega (arith, s.requires, stuffed_one (s.args.word % 256))

pub returns : goal.returns
returns c =
    let high = c.before.before in
    let low = high.before.before.before.before in
    let word = low.args.word in
    put_append _ _ _ (word % 256 ∷ []) (word / 256 % 256 ∷ []) _ _ _ low.put-low.ensures high.put.ensures
