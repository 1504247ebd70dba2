-- The bounds of a run's numbers beside those of its plan.
use Rattle.std.specs.Prelude.{◌≡◌, Bool, true, cond, ◌&&◌, ◌||◌, ℕ, ◌*◌, ◌^◌, ◌<◌, eqb, ltb, leb}
use Rattle.recorder_plans.specs.declared.plan.Plan.{Plan as PlanState}
use Rattle.recorder_plans.specs.Bounds.{fits, plan_sound}
use Rattle.recorder_runs.specs.declared.run.Run.{Run as RunState}

-- previous: a number of the trigger's size; triggered: sets left, at least one while it runs
abbrev pub watch_sound : ℕ → ℕ → ℕ → ℕ → ℕ → Bool
watch_sound size post_trigger running watch value =
    cond (eqb watch 0) (eqb value 0)
    (cond (eqb watch 1) (fits size value)
    (eqb watch 2 && leb value post_trigger && (eqb running 0 || ltb 0 value)))

-- the flags are 0 or 1
abbrev pub flags_sound : RunState → Bool
flags_sound r = leb r.running 1 && leb r.full 1

-- the next place lies in the ring, and no wait is longer than the divider's
abbrev pub counts_sound : ℕ → ℕ → RunState → Bool
counts_sound samples divider r = leb r.wait divider && ltb r.place samples

-- beside the numbers of a plan
abbrev pub sound_beside : ℕ → ℕ → ℕ → ℕ → RunState → Bool
sound_beside samples divider size post_trigger r =
    flags_sound r && counts_sound samples divider r && watch_sound size post_trigger r.running r.watch r.value

unfoldable pub run_sound : PlanState → RunState → Bool
run_sound p r = sound_beside p.samples p.divider p.size p.post_trigger r

-- what is known where a set is looked at for the trigger: plan and watch within their bounds, and a value of the trigger's size
pub record Looking (p : PlanState) (r : RunState) (value : ℕ) : Type 0 where
  pub plan : plan_sound p ≡ true
  pub watch : watch_sound p.size p.post_trigger r.running r.watch r.value ≡ true
  pub fits : value < 2 ^ (8 * p.size)
