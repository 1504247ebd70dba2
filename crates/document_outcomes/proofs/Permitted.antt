-- What may be written lies among the variables, whatever the gate holds.
use mathlib.Core.Path.{◌≡◌}
use mathlib.Core.Bool.{true}
use Prim.Native.Nat.{ℕ, ◌+◌, ◌≤◌}
use borrow.Author.Tests.{leb-true}
use Rattle.document.specs.Areas.{variables_end}
use Rattle.document.specs.Gate.{Gate}
use Rattle.document.specs.Permission.{may_be_written}

pub written_variables : (g : Gate) (address size : ℕ) → may_be_written g address size ≡ true → address + size ≤ variables_end
unfolding may_be_written
written_variables g address size may = leb-true (address + size) variables_end may
