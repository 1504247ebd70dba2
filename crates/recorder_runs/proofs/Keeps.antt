-- No run that is handed out leaves the bounds of its plan.
use mathlib.Core.Path.{◌≡◌, refl, sym, ap, ◌∙◌}
use mathlib.Core.Bool.{Bool, true, false}
use mathlib.Core.List.{List}
use Prim.Native.Nat.{ℕ, ◌*◌, ◌^◌, ◌<◌, ◌≤◌}
use native.Mathlib.Omega.{arith}
use lib.Dec.{leb}
use borrow.Author.Tests.{lt-ltb, le-leb, eqb-true}
use Rattle.document.specs.Plan.{Plan}
use Rattle.document.specs.Trigger.{trigger_value, fires, is_beyond}
use Rattle.document.specs.Run.{Watch, Run, started, stopped, prepared, looked_at, watched, goes_on, ran_tick}
use Rattle.document.specs.Run.Watch.{unprimed, previous, triggered}
use Rattle.recorder_history.specs.History.{CountsFit, sets_left}
use Rattle.recorder_history.proofs.Ticks.{by_case, stopped_run, waits_run, takes_run}
use Rattle.recorder_history.proofs.Counts.{started_fits, stopped_fits, tick_fits}
use Rattle.recorder_plans.specs.declared.plan.Plan.{Plan as PlanState}
use Rattle.recorder_plans.specs.State.{trigger_of, plan_of}
use Rattle.recorder_plans.specs.Bounds.{plan_sound}
use Rattle.recorder_plans.proofs.Granted.{sound_fits}
use Rattle.recorder_runs.specs.declared.run.Run.{Run as RunState}
use Rattle.recorder_runs.specs.State.{is_set, flag_of, watch_of, watch_number, watch_value, run_of, run_kept, halted_run}
use Rattle.recorder_runs.specs.Bounds.{watch_sound, run_sound}
use Rattle.recorder_runs.proofs.Granted.{run_bounds, previous_fits, left_fits_post, left_some}
use Rattle.recorder_runs.proofs.Kept.{by_watch, halted_again}

-- the value at the previous set is a number of the trigger's size
abbrev pub ValueFits : ℕ → Watch → Type 0
ValueFits size unprimed = Unit {0}
ValueFits size (previous value) = value < 2 ^ (8 * size)
ValueFits size (triggered left) = Unit {0}

watch_sound_lem : (size post : ℕ) (running : Bool) (w : Watch) → sets_left w ≤ post → (running ≡ true → goes_on w ≡ true) → ValueFits size w
    → watch_sound size post (flag_of running) (watch_number w) (watch_value w) ≡ true
watch_sound_lem size post running unprimed l g v = refl
watch_sound_lem size post running (previous value) l g v = lt-ltb value (2 ^ (8 * size)) v
watch_sound_lem size post true (triggered left) l g v = rw (le-leb left post l, g refl)
watch_sound_lem size post false (triggered left) l g v = rw (le-leb left post l)

flag_small : (b : Bool) → leb (flag_of b) 1 ≡ true
flag_small true = refl
flag_small false = refl

-- what fits the plan is sound in the struct
pub run_sound_lem : (p : PlanState) (r : Run) → CountsFit (plan_of p) r → ValueFits p.size r.watch → run_sound p (run_kept r) ≡ true
unfolding run_sound
run_sound_lem p r c v =
    rw (
      flag_small r.running,
      flag_small r.full,
      le-leb r.wait p.divider c.wait,
      lt-ltb r.place p.samples c.place,
    )
    (watch_sound_lem p.size p.post_trigger r.running r.watch c.left c.more v)

module _ (p : PlanState) (r : RunState) (s : run_sound p r ≡ true) where
  -- the counts of a sound run fit
  pub run_counts : CountsFit (plan_of p) (run_of r)
  run_counts =
      let b = run_bounds p r s in
      record {
        place = b.place;
        wait = b.wait;
        left =
            by_watch p.size p.post_trigger r.running r.watch r.value b.watch
            (λ e z. rw e (omega arith))
            (λ e. rw e (omega arith))
            (λ n0 n1 e. rw e (left_fits_post p.size p.post_trigger r.running r.watch r.value b.watch n0 n1));
        more = λ g.
            by_watch p.size p.post_trigger r.running r.watch r.value b.watch
            (λ e z. rw e)
            (λ e. rw e)
            (λ n0 n1 e. rw e
            (lt-ltb 0 r.value
            (left_some p.size p.post_trigger r.running r.watch r.value b.watch n0 n1 (eqb-true r.running 1 g))));
      }

  pub run_value : ValueFits p.size (watch_of r.watch r.value)
  run_value =
      let b = run_bounds p r s in
      by_watch p.size p.post_trigger r.running r.watch r.value b.watch
      (λ e z. rw e tt)
      (λ e. rw e (previous_fits p.size p.post_trigger r.running r.watch r.value b.watch e))
      (λ n0 n1 e. rw e tt)

  pub halted_run_sound : run_sound p (halted_run r) ≡ true
  halted_run_sound =
      ap (run_sound p) (sym (halted_again p r s))
      ∙ run_sound_lem p (stopped (run_of r)) (stopped_fits (plan_of p) (run_of r) run_counts) run_value

-- a run as a start or a preparing leaves it
pub started_run_sound : (p : PlanState) → plan_sound p ≡ true → run_sound p (run_kept started) ≡ true
started_run_sound p s = run_sound_lem p started (started_fits (plan_of p) (sound_fits p s)) tt

pub prepared_run_sound : (p : PlanState) → plan_sound p ≡ true → run_sound p (run_kept prepared) ≡ true
prepared_run_sound p s = run_sound_lem p prepared (stopped_fits (plan_of p) started (started_fits (plan_of p) (sound_fits p s))) tt

-- a value of the trigger's size leaves one
value_looked : (p : Plan) (size : ℕ) (come : Bool) (x : ℕ) → x < 2 ^ (8 * size) → ValueFits size (looked_at p come x)
value_looked p size true x h = tt
value_looked p size false x h = h

value_watched : (p : Plan) (size : ℕ) (w : Watch) (x : ℕ) → x < 2 ^ (8 * size) → ValueFits size w → ValueFits size (watched p w x)
value_watched p size unprimed x h v = value_looked p size (is_beyond p.trigger x) x h
value_watched p size (previous before) x h v = value_looked p size (fires p.trigger before x) x h
value_watched p size (triggered left) x h v = tt

pub ticked_run_sound : (p : PlanState) (r : RunState) (m : List ℕ) → run_sound p r ≡ true
    → (is_set r.running ≡ true → r.wait ≡ 0 → trigger_value (trigger_of p) m < 2 ^ (8 * p.size))
    → run_sound p (run_kept (ran_tick (plan_of p) (run_of r) m)) ≡ true
ticked_run_sound p r m s h =
    run_sound_lem p (ran_tick (plan_of p) (run_of r) m) (tick_fits (plan_of p) (run_of r) m (run_counts p r s))
    (by_case (run_of r)
    (λ e. rw (stopped_run (plan_of p) (run_of r) m e) (run_value p r s))
    (λ e z. rw (waits_run (plan_of p) (run_of r) m e z) (run_value p r s))
    (λ e z. rw (takes_run (plan_of p) (run_of r) m e z)
    (value_watched (plan_of p) p.size (watch_of r.watch r.value) (trigger_value (trigger_of p) m) (h e z) (run_value p r s))))
