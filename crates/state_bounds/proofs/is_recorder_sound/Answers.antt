-- A sound plan's trigger has at most four bytes.
use mathlib.Core.Path.{sym, ◌∙◌}
use borrow.Author.Rules.{rules}
use Rattle.recorder_plans.proofs.Granted.{plan_bounds}
use Rattle.state_block.specs.Layout.{decoded_plan}
use Rattle.state_bounds.proofs.is_recorder_sound.Goals as goal

pub is_run_sound-requires : goal.is_run_sound-requires
is_run_sound-requires c = (search rules, (plan_bounds (decoded_plan c.args.block.now) (sym c.is_plan_sound.ensures ∙ c.if-is_plan_sound.true)).trigger.small)
