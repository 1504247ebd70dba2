-- Entry by entry: a look at those that are left gives the answer.
use mathlib.Core.Path.{sym, ◌∙◌}
use Rattle.tables_lists.proofs.EachEntry.{first}
use Rattle.tables_lists.proofs.entries.are_entries_good.Goals as goal

pub returns-then-not-is_entry_good : goal.returns-then-not-is_entry_good
returns-then-not-is_entry_good c =
    sym (rw c.if-not-is_entry_good.true at (first c.args.memory.now c.args.address c.args.count c.loop-k.k _ c.loop-k-test.true c.is_entry_good.ensures))
    ∙ c.loop-k.invariant

pub loop-k-preserved : goal.loop-k-preserved
loop-k-preserved c =
    sym (rw c.if-not-is_entry_good.false at (first c.args.memory.now c.args.address c.args.count c.loop-k.k _ c.loop-k-test.true c.is_entry_good.ensures))
    ∙ c.loop-k.invariant
