-- The state that a tick leaves means what the document's recorder becomes, and is within the bounds.
use mathlib.Core.Path.{◌≡◌, sym, ap, ◌∙◌}
use mathlib.Core.Bool.{Bool, true, cond}
use mathlib.Core.List.{List}
use Prim.Native.Nat.{ℕ, ◌*◌, ◌^◌, ◌<◌}
use lib.Dec.{eqb}
use borrow.Author.Tests.{eqb-true, eqb-false}
use Rattle.document.specs.Trigger.{trigger_value}
use Rattle.document.specs.Run.{ran_tick}
use Rattle.document.specs.Recorder.{Recorder, ticked}
use Rattle.document.proofs.Cases.{split}
use Rattle.recorder_plans.specs.State.{trigger_of, plan_of}
use Rattle.recorder_runs.specs.State.{is_set, run_of, run_kept}
use Rattle.recorder_runs.proofs.Keeps.{ticked_run_sound}
use Rattle.recorder_state.specs.declared.state.Recorder.{Recorder as RecorderState}
use Rattle.recorder_state.specs.State.{recorder_of, with_run}
use Rattle.recorder_state.specs.Bounds.{sound}
use Rattle.recorder_state.proofs.Readings.{at_absent, at_planned}
use Rattle.recorder_state.proofs.Keeps.{with_run_sound}
use Rattle.recorder_state.proofs.Meanings.{with_run_read}
use Rattle.recorder_taking.specs.Tick.{ticked_state}

pub ticked_means : (r : RecorderState) (m : List ℕ) → recorder_of (ticked_state r m) ≡ ticked (recorder_of r) m
ticked_means r m =
    split (eqb r.ready 0)
    (λ t. let e : r.ready ≡ 0 = eqb-true r.ready 0 t in
    ap (λ (b : Bool). recorder_of (cond b r (with_run r (ran_tick (plan_of r.plan) (run_of r.run) m)))) t
    ∙ at_absent (λ (x : Recorder). x) r e
    ∙ sym (at_absent (λ (x : Recorder). ticked x m) r e))
    (λ f. let n : r.ready ≡ 0 → ⊥ = eqb-false r.ready 0 f in
    ap (λ (b : Bool). recorder_of (cond b r (with_run r (ran_tick (plan_of r.plan) (run_of r.run) m)))) f
    ∙ with_run_read r (ran_tick (plan_of r.plan) (run_of r.run) m) n
    ∙ sym (at_planned (λ (x : Recorder). ticked x m) r n))

-- the trigger variable's bytes hold a number of its size, where a set is taken
pub ticked_sound : (r : RecorderState) (m : List ℕ) → sound r ≡ true
    → (is_set r.run.running ≡ true → r.run.wait ≡ 0 → trigger_value (trigger_of r.plan) m < 2 ^ (8 * r.plan.size))
    → sound (ticked_state r m) ≡ true
ticked_sound r m s h =
    split (eqb r.ready 0)
    (λ t. ap sound (ap (λ (b : Bool). cond b r (with_run r (ran_tick (plan_of r.plan) (run_of r.run) m))) t) ∙ s)
    (λ f. ap sound (ap (λ (b : Bool). cond b r (with_run r (ran_tick (plan_of r.plan) (run_of r.run) m))) f)
    ∙ with_run_sound r (run_kept (ran_tick (plan_of r.plan) (run_of r.run) m)) s (λ p q. ticked_run_sound r.plan r.run m q h))
