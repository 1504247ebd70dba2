-- What is left to put gives the whole: one variable a turn.
use mathlib.Core.Path.{◌≡◌}
use mathlib.Core.Bool.{true}
use Prim.Native.Nat.{◌<◌}
use lib.ListN.{length}
use lib.Seq.{sets}
use Rattle.document.specs.Areas.{may_be_read}
use Rattle.document.specs.Doubling.{stuffed}
use Rattle.document.specs.Variables.{all_may, values_of}
use Rattle.line_wire.specs.Put.{progressed}
use Rattle.variables_list.specs.State.{variables_of}
use Rattle.state_block.specs.Layout.{decoded_scope}
use Rattle.serve_scope.proofs.Walked.{left_behind}
use Rattle.serve_scope.proofs.values.put_values.Given as goal

abbrev pub invariant-loop-i : goal.invariant-loop-i
invariant-loop-i l =
    (length l.out ≡ length l.initial.out)
    × (l.progress.sum < 256)
    × (all_may may_be_read (left_behind l.block l.i) ≡ true)
    × (progressed l.progress (values_of l.memory (left_behind l.block l.i)) ≡ progressed l.initial.progress (values_of l.memory (variables_of (decoded_scope l.block).variables)))
    × (sets l.out l.progress.at (stuffed (values_of l.memory (left_behind l.block l.i)))
    ≡ sets l.initial.out l.initial.progress.at (stuffed (values_of l.memory (variables_of (decoded_scope l.block).variables))))
