-- Pair by pair: a look at the tables that are left gives the answer.
use mathlib.Core.Path.{◌≡◌}
use Rattle.document.specs.Tables.{pair_size}
use Rattle.tables_lists.proofs.EachTable.{good}
use Rattle.tables_lists.proofs.pairs.are_tables_good.Given as goal

abbrev pub invariant-loop-pair : goal.invariant-loop-pair
invariant-loop-pair l = (l.pair-iterator.size ≡ pair_size) × (good l.memory l.pair-iterator.rest.now ≡ good l.memory l.list)
