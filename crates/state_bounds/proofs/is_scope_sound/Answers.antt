-- The count, and then the definitions that it counts.
use mathlib.Core.Bool.{true}
use mathlib.Core.Path.{ap, ◌∙◌}
use Prim.Native.Nat.{◌+◌}
use native.Mathlib.Omega.{arith}
use lib.ListN.{drop}
use borrow.Author.Tests.{lt-leb}
use Rattle.std.specs.Option.{is_some}
use Rattle.document.specs.Areas.{memory_end}
use Rattle.document.specs.Variables.{definitions_in}
use Rattle.state_block.specs.Places.{scope_place}
use Rattle.state_bounds.proofs.Within.{scope_many, scope_counted}
use Rattle.state_bounds.proofs.Looked.{is_some_measured}
use Rattle.state_bounds.proofs.is_scope_sound.Goals as goal

pub returns-then-count-le-MOST_VARIABLES : goal.returns-then-count-le-MOST_VARIABLES
returns-then-count-le-MOST_VARIABLES c =
    let n = c.from-count in
    c.is_some.ensures
    ∙ ap is_some c.measure.ensures.0
    ∙ is_some_measured memory_end (definitions_in true n.result (drop (scope_place + 1) c.args.block.now))
    ∙ scope_counted c.args.block.now n.result n.ensures c.if-count-le-MOST_VARIABLES.true

pub returns-else-count-le-MOST_VARIABLES : goal.returns-else-count-le-MOST_VARIABLES
returns-else-count-le-MOST_VARIABLES c =
    lt-leb c.from-count.result 8 (omega arith) ∙ scope_many c.args.block.now c.from-count.result c.from-count.ensures (omega arith)
