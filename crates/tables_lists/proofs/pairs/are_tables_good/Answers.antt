-- Pair by pair: a look at the tables that are left gives the answer.
use mathlib.Core.Path.{sym, ◌∙◌}
use native.Mathlib.Omega.{arith}
use Rattle.tables_lists.proofs.EachTable.{first, none_left}
use Rattle.tables_lists.proofs.pairs.are_tables_good.Goals as goal

pub returns-then-not-is_table_good : goal.returns-then-not-is_table_good
returns-then-not-is_table_good c =
    let steps = c.in-Some.ensures.steps in
    sym (rw c.if-not-is_table_good.true at (first c.args.memory.now c.loop-pair.pair-iterator.rest.now c.in-Some.pair.now c.next.new.self.rest.now _ _ _
    steps.1.0 (steps.1.1 ∙ c.loop-pair.invariant.0) (c.from-address.ensures ∙ c.at.ensures) (c.from-size.ensures ∙ c.at-in-loop-pair.ensures) c.is_table_good.ensures))
    ∙ c.loop-pair.invariant.1

pub loop-pair-preserved : goal.loop-pair-preserved
loop-pair-preserved c =
    let steps = c.in-Some.ensures.steps in (
      steps.0 ∙ c.loop-pair.invariant.0,
      sym (rw c.if-not-is_table_good.false at (first c.args.memory.now c.loop-pair.pair-iterator.rest.now c.in-Some.pair.now c.next.new.self.rest.now _ _ _
          steps.1.0 (steps.1.1 ∙ c.loop-pair.invariant.0) (c.from-address.ensures ∙ c.at.ensures) (c.from-size.ensures ∙ c.at-in-loop-pair.ensures) c.is_table_good.ensures))
          ∙ c.loop-pair.invariant.1,
    )

pub returns : goal.returns
returns c =
    let steps = c.in-None.ensures.steps in
    sym (none_left c.args.memory.now c.loop-pair.pair-iterator.rest.now (omega (arith, steps.1.0, c.loop-pair.invariant.0))) ∙ c.loop-pair.invariant.1
