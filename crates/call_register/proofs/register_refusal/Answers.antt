-- The block, the memory, the list.
use mathlib.Core.Path.{sym, ◌∙◌}
use Prim.Native.Nat.{◌≤◌}
use lib.ListN.{length}
use borrow.Author.Tests.{leb-true, leb-false}
use Rattle.state_block.specs.Places.{state_length}
use Rattle.call_register.proofs.Registered.{too_short, other_memory, good_list, bad_list}
use Rattle.call_register.proofs.register_refusal.Goals as goal

pub returns-then-not-is_long_enough : goal.returns-then-not-is_long_enough
returns-then-not-is_long_enough c =
    too_short (c.args.state.now) (c.args.memory.now) (c.args.list.now)
    (leb-false state_length (length (c.args.state.now)) (sym c.is_long_enough.ensures ∙ c.if-not-is_long_enough.true))

pub returns-then-memory-ne-MEMORY_END : goal.returns-then-memory-ne-MEMORY_END
returns-then-memory-ne-MEMORY_END c =
    let long : state_length ≤ length (c.args.state.now) = leb-true state_length (length (c.args.state.now)) (sym c.is_long_enough.ensures ∙ c.if-not-is_long_enough.false) in
    other_memory (c.args.state.now) (c.args.memory.now) (c.args.list.now) long c.if-memory-ne-MEMORY_END.true

pub returns-then-is_list_good : goal.returns-then-is_list_good
returns-then-is_list_good c =
    let long : state_length ≤ length (c.args.state.now) = leb-true state_length (length (c.args.state.now)) (sym c.is_long_enough.ensures ∙ c.if-not-is_long_enough.false) in
    good_list (c.args.state.now) (c.args.memory.now) (c.args.list.now) long c.if-memory-ne-MEMORY_END.false (sym c.is_list_good.ensures ∙ c.if-is_list_good.true)

pub returns-else-is_list_good : goal.returns-else-is_list_good
returns-else-is_list_good c =
    let long : state_length ≤ length (c.args.state.now) = leb-true state_length (length (c.args.state.now)) (sym c.is_long_enough.ensures ∙ c.if-not-is_long_enough.false) in
    bad_list (c.args.state.now) (c.args.memory.now) (c.args.list.now) long c.if-memory-ne-MEMORY_END.false (sym c.is_list_good.ensures ∙ c.if-is_list_good.false)
