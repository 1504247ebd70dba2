-- Field by field; the trigger's are those that were read.
use mathlib.Core.Path.{refl, sym}
use mathlib.Core.List.{[]}
use Rattle.document.specs.Plan.{plan_in}
use Rattle.variables_list.specs.State.{kept}
use Rattle.recorder_triggers.specs.State.{meant}
use Rattle.recorder_setups.proofs.Heads.{plan_kept_lem}
use Rattle.recorder_setups.proofs.fields.read_plan.Goals as goal

pub returns : goal.returns
unfolding plan_in
returns c =
    let t = c.read_trigger-trigger in (
      plan_kept_lem (plan_in c.args.ex c.args.body.now) (meant t.result) (kept []) _ _ _ _ _ _ _ _
          c.at.ensures c.at-2.ensures c.at-3.ensures (sym t.ensures.0) refl refl refl refl refl,
      t.ensures.1,
    )
