-- The plan in the block is sound, so its trigger lies in the memory and its variables' bytes go to a place in the buffer.
use mathlib.Core.Bool.{true}
use mathlib.Core.Path.{◌≡◌, ap, ◌∙◌}
use native.Mathlib.Omega.{arith}
use Rattle.document.specs.Run.{set_taken}
use Rattle.recorder_plans.specs.declared.plan.Plan.{Plan}
use Rattle.recorder_plans.specs.State.{plan_of}
use Rattle.recorder_plans.specs.Bounds.{plan_sound}
use Rattle.recorder_runs.specs.State.{run_of, run_kept}
use Rattle.recorder_runs.specs.Bounds.{run_sound}
use Rattle.call_tick.proofs.Due.{few, recorded, may_be_recorded_lem, room}
use Rattle.call_tick.proofs.take.Goals as goal

pub trigger_value-value-requires : goal.trigger_value-value-requires
trigger_value-value-requires c =
    let planned : plan_sound c.plan_in-plan.result ≡ true = ap plan_sound c.plan_in-plan.ensures ∙ c.requires.plan_sound_lem in
    (planned, c.requires.memory_whole)

pub after_set-requires : goal.after_set-requires
after_set-requires c =
    let planned : plan_sound c.plan_in-plan.result ≡ true = ap plan_sound c.plan_in-plan.ensures ∙ c.requires.plan_sound_lem in
    (planned, ap (λ (q : Plan). run_sound q c.args.run) c.plan_in-plan.ensures ∙ c.requires.run_sound_lem, c.requires.runs, c.trigger_value-value.ensures.1)

pub returns : goal.returns
returns c =
    let count = c.from-count in
    let memory = c.args.memory.now in
    record {
      run_after =
          c.after_set.ensures memory c.trigger_value-value.ensures.0
          ∙ ap (λ (q : Plan). run_kept (set_taken (plan_of q) (run_of c.args.run) memory)) c.plan_in-plan.ensures;
      memory_left = rw (recorded c.args.state.now count.result count.ensures c.requires.plan_sound_lem) at c.take_set.ensures;
    }

pub take_set-requires-clause-recordable : goal.take_set-requires-clause-recordable
take_set-requires-clause-recordable c =
    let count = c.from-count in
    let block = c.args.state.now in
    record {
      few = few block count.result count.ensures c.requires.plan_sound_lem;
      inside = omega arith;
      may = may_be_recorded_lem block count.result count.ensures c.requires.plan_sound_lem;
    }

pub take_set-requires-clause-count_bound : goal.take_set-requires-clause-count_bound
take_set-requires-clause-count_bound c =
    let count = c.from-count in
    (room c.args.state.now count.result count.ensures c.requires.plan_sound_lem c.args.run c.requires.run_sound_lem, c.requires.memory_whole)
