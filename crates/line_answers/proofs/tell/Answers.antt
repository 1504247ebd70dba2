-- An answer is told front, data, sum byte; with few data it is short enough for the room.
use mathlib.Core.List.{[], ◌∷◌}
use native.Mathlib.Omega.{arith}
use Rattle.document.specs.Sum.{sum_byte_of}
use Rattle.line_wire.specs.Told.{Telling}
use Rattle.line_wire.proofs.Writing.{put_append, telling_room, told_in_parts}
use Rattle.line_answers.proofs.tell.Goals as goal

pub put_all-behind-requires : goal.put_all-behind-requires
put_all-behind-requires c =
    telling_room c.args.status [] c.args.out.now c.begin-front.result _ c.begin-front.ensures c.requires.1 c.args.body.now (omega (arith, c.requires.0))

pub put_sum-requires : goal.put_sum-requires
put_sum-requires c =
    let telling : Telling c.args.status c.args.body.now c.args.out.now c.put_all-behind.result c.put_all-behind.new.out = put_append _ _ _ [] c.args.body.now _ _ _ c.begin-front.ensures c.put_all-behind.ensures in
    telling_room c.args.status c.args.body.now c.args.out.now c.put_all-behind.result _ telling c.requires.1 (sum_byte_of (c.put_all-behind.result.sum ∷ []) ∷ []) (omega (arith, c.requires.0))

pub returns : goal.returns
returns c =
    let telling : Telling c.args.status c.args.body.now c.args.out.now c.put_all-behind.result c.put_all-behind.new.out = put_append _ _ _ [] c.args.body.now _ _ _ c.begin-front.ensures c.put_all-behind.ensures in
    told_in_parts c.args.status c.args.body.now c.args.out.now c.put_all-behind.result _ telling c.put_sum.result _ c.put_sum.ensures
