-- Refused, the block stays; else it is reset with the list.
use mathlib.Core.Path.{sym, ◌∙◌}
use Rattle.codes_table.proofs.Refusals.{refusal_some}
use Rattle.call_register.proofs.Registered.{taken_good, good_few, register_refused, register_taken}
use Rattle.call_register.proofs.register.Goals as goal

pub returns-in-Err : goal.returns-in-Err
returns-in-Err c =
    register_refused c.args.state.now c.args.memory.now c.args.list.now c.from.result (c.from.ensures ∙ c.in-Err.ensures) (λ z. refusal_some c.in-Err.refusal (sym c.from.ensures ∙ z))

pub reset_with-requires : goal.reset_with-requires
reset_with-requires c =
    let known = taken_good c.args.state.now c.args.memory.now c.args.list.now (sym c.in_default.ensures) in
    (known.long, good_few c.args.memory.now c.args.list.now known.good)

pub returns : goal.returns
returns c =
    register_taken c.args.state.now c.args.memory.now c.args.list.now (sym c.in_default.ensures) _ c.reset_with.ensures
