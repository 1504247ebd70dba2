-- May this range be written? A question to the gate, asked of every write that comes over a port.
use Rattle.std.specs.Prelude.{Bool, ℕ, ◌+◌, leb}
use Rattle.document.specs.Areas.{variables_end}
use Rattle.document.specs.Gate.{Gate}

-- "Written over the port": the variables alone
unfoldable pub may_be_written : Gate → ℕ → ℕ → Bool
may_be_written g address size = leb (address + size) variables_end
