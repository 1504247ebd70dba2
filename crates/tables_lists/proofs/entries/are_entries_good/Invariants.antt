-- Entry by entry: a look at those that are left gives the answer.
use mathlib.Core.Path.{◌≡◌}
use Prim.Native.Nat.{◌+◌, ◌-◌, ◌*◌}
use Rattle.document.specs.Tables.{entry_size, are_entries_good}
use Rattle.tables_lists.proofs.entries.are_entries_good.Given as goal

abbrev pub invariant-loop-k : goal.invariant-loop-k
invariant-loop-k l = are_entries_good l.memory (l.address + l.k * entry_size) (l.count - l.k) ≡ are_entries_good l.memory l.address l.count
