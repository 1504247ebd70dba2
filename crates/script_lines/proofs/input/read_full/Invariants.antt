-- What is read lies in the part, and each turn reads more of it.
use Rattle.std.proofs.Common.{◌≡◌, ◌-◌, ◌≤◌, length}
use Rattle.script_lines.proofs.input.read_full.Given as goal

abbrev pub invariant-loop-count : goal.invariant-loop-count
invariant-loop-count g l = (l.count ≤ length l.part) × (length l.part ≡ length l.fn.part)

abbrev pub decreases-loop-count : goal.decreases-loop-count
decreases-loop-count g l = length l.part - l.count
