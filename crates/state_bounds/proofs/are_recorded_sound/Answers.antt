-- The count, each definition, and the bytes of a set, in turn.
use mathlib.Core.Bool.{true}
use mathlib.Core.Path.{ap, ◌∙◌}
use Prim.Native.Nat.{ℕ, ◌*◌, ◌+◌}
use lib.Dec.{leb}
use lib.ListN.{drop}
use Rattle.document.specs.Areas.{recorded_end}
use Rattle.document.specs.Variables.{definitions_in}
use Rattle.state_block.specs.Places.{recorded_place}
use Rattle.state_bounds.proofs.Within.{outside_recorded, size_decides}
use Rattle.state_bounds.proofs.Looked.{some_measured, none_measured}
use Rattle.state_bounds.proofs.are_recorded_sound.Goals as goal

pub returns-in-Some : goal.returns-in-Some
returns-in-Some c =
    let block = c.args.block.now in
    let n = c.from-count in
    let recorded = some_measured recorded_end (definitions_in true n.result (drop (recorded_place + 1) block)) c.in-Some.size c.in-Some.ensures.0 in
    ap (λ (samples : ℕ). leb (samples * c.in-Some.size) 4096) (c.from.ensures ∙ c.at.ensures)
    ∙ size_decides block _ n.result n.ensures c.if-count-eq0.false c.if-count-gt-MOST_VARIABLES.false c.in-Some.size recorded.0 recorded.1

pub returns-in-None : goal.returns-in-None
returns-in-None c =
    let block = c.args.block.now in
    let n = c.from-count in
    outside_recorded block _ n.result n.ensures c.if-count-eq0.false c.if-count-gt-MOST_VARIABLES.false
    (none_measured recorded_end (definitions_in true n.result (drop (recorded_place + 1) block)) c.in-None.ensures.0)
