-- No state that is handed out leaves the bounds.
use mathlib.Core.Path.{◌≡◌, sym, ap, ◌∙◌}
use mathlib.Core.Bool.{Bool, true, false, cond, ◌&&◌}
use lib.Dec.{eqb}
use Rattle.document.specs.Numbers.{done}
use Rattle.document.specs.Run.{started}
use Rattle.document.proofs.Cases.{split, both}
use Rattle.recorder_plans.specs.Bounds.{plan_sound}
use Rattle.recorder_runs.specs.declared.run.Run.{Run as RunState}
use Rattle.recorder_runs.specs.State.{run_kept, halted_run}
use Rattle.recorder_runs.specs.Bounds.{run_sound}
use Rattle.recorder_runs.proofs.Keeps.{started_run_sound, halted_run_sound}
use Rattle.recorder_state.specs.declared.state.Recorder.{Recorder as RecorderState}
use Rattle.recorder_state.specs.State.{recorder_of}
use Rattle.recorder_state.specs.Bounds.{sound}
use Rattle.recorder_state.specs.Calls.{start_status, started_state, stop_status, halted_state}

-- what a sound recorder that is set up has
pub record Parts (r : RecorderState) : Type 0 where
  pub ready : eqb r.ready 1 ≡ true
  pub plan : plan_sound r.plan ≡ true
  pub run : run_sound r.plan r.run ≡ true

pub sound_parts : (r : RecorderState) → sound r ≡ true → eqb r.ready 0 ≡ false → Parts r
sound_parts r s f =
    let all : eqb r.ready 1 && plan_sound r.plan && run_sound r.plan r.run ≡ true =
    ap (λ (b : Bool). cond b true (eqb r.ready 1 && plan_sound r.plan && run_sound r.plan r.run)) (sym f) ∙ s in
    let b = both (eqb r.ready 1 && plan_sound r.plan) (run_sound r.plan r.run) all in
    let c = both (eqb r.ready 1) (plan_sound r.plan) b.0 in
    record { ready = c.0; plan = c.1; run = b.1 }

-- another run within the bounds of the same plan
pub with_run_sound : (r : RecorderState) (q : RunState) → sound r ≡ true
    → (plan_sound r.plan ≡ true → run_sound r.plan r.run ≡ true → run_sound r.plan q ≡ true)
    → sound (record { ready = r.ready; plan = r.plan; run = q }) ≡ true
with_run_sound r q s h =
    split (eqb r.ready 0)
    (λ t. rw t)
    (λ f. let b = sound_parts r s f in rw (f, b.ready, b.plan) (h b.plan b.run))

pub started_sound : (r : RecorderState) → sound r ≡ true → sound (started_state r) ≡ true
started_sound r s =
    split (eqb (start_status (recorder_of r)) done)
    (λ t. rw t (with_run_sound r (run_kept started) s (λ p q. started_run_sound r.plan p)))
    (λ f. rw f s)

pub halted_sound : (r : RecorderState) → sound r ≡ true → sound (halted_state r) ≡ true
halted_sound r s =
    split (eqb (stop_status (recorder_of r)) done)
    (λ t. rw t (with_run_sound r (halted_run r.run) s (λ p q. halted_run_sound r.plan r.run q)))
    (λ f. rw f s)
