-- How many numbers are kept rises to the most that a line can have.
use Rattle.std.proofs.Common.{◌≤◌}
use Rattle.play.proofs.operands.Operands.tables.Given as goal

abbrev pub invariant-loop-place : goal.invariant-loop-place
invariant-loop-place l = l.count ≤ 80
