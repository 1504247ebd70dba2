-- What a question about a recorder comes to, by the flags of its struct.
use mathlib.Core.Path.{◌≡◌, refl, ap, ◌∙◌}
use mathlib.Core.Bool.{Bool, true, false, cond}
use borrow.Author.Tests.{eq-eqb, ne_eqb}
use Rattle.document.specs.Run.{Run}
use Rattle.document.specs.Recorder.{Recorder}
use Rattle.document.specs.Recorder.Recorder.{absent, planned}
use Rattle.recorder_runs.specs.declared.run.Run.{Run as RunState}
use Rattle.recorder_state.specs.declared.state.Recorder.{Recorder as RecorderState}
use Rattle.recorder_plans.specs.State.{plan_of}
use Rattle.recorder_runs.specs.State.{is_set, watch_of, run_of}
use Rattle.recorder_state.specs.State.{recorder_of}

-- a run with these flags
abbrev pub flagged : Bool → Bool → RunState → Run
flagged running full r =
    record { running = running; wait = r.wait; place = r.place; full = full; watch = watch_of r.watch r.value }

module _ {A : Type 0} (f : Recorder → A) (r : RecorderState) where
  pub at_absent : r.ready ≡ 0 → f (recorder_of r) ≡ f absent
  at_absent e =
      ap (λ (b : Bool). f (cond b absent (planned (plan_of r.plan) (run_of r.run)))) (eq-eqb r.ready 0 e)

  pub at_planned : (r.ready ≡ 0 → ⊥) → f (recorder_of r) ≡ f (planned (plan_of r.plan) (run_of r.run))
  at_planned n =
      ap (λ (b : Bool). f (cond b absent (planned (plan_of r.plan) (run_of r.run)))) (ne_eqb r.ready 0 n)

  at_flags : (running full : Bool) → (r.ready ≡ 0 → ⊥) → is_set r.run.running ≡ running → is_set r.run.full ≡ full
      → f (recorder_of r) ≡ f (planned (plan_of r.plan) (flagged running full r.run))
  at_flags running full n t u =
      at_planned n
      ∙ ap (λ (b : Bool). f (planned (plan_of r.plan) (flagged b (is_set r.run.full) r.run))) t
      ∙ ap (λ (b : Bool). f (planned (plan_of r.plan) (flagged running b r.run))) u

  pub at_running : (r.ready ≡ 0 → ⊥) → r.run.running ≡ 1
      → f (recorder_of r) ≡ f (planned (plan_of r.plan) (flagged true (is_set r.run.full) r.run))
  at_running n e = at_flags true (is_set r.run.full) n (eq-eqb r.run.running 1 e) refl

  pub at_stopped : (r.ready ≡ 0 → ⊥) → (r.run.running ≡ 1 → ⊥)
      → f (recorder_of r) ≡ f (planned (plan_of r.plan) (flagged false (is_set r.run.full) r.run))
  at_stopped n e = at_flags false (is_set r.run.full) n (ne_eqb r.run.running 1 e) refl

  -- stopped, by whether the ring is full
  pub at_full : (r.ready ≡ 0 → ⊥) → (r.run.running ≡ 1 → ⊥) → r.run.full ≡ 1
      → f (recorder_of r) ≡ f (planned (plan_of r.plan) (flagged false true r.run))
  at_full n e u = at_flags false true n (ne_eqb r.run.running 1 e) (eq-eqb r.run.full 1 u)

  pub at_filling : (r.ready ≡ 0 → ⊥) → (r.run.running ≡ 1 → ⊥) → (r.run.full ≡ 1 → ⊥)
      → f (recorder_of r) ≡ f (planned (plan_of r.plan) (flagged false false r.run))
  at_filling n e u = at_flags false false n (ne_eqb r.run.running 1 e) (ne_eqb r.run.full 1 u)
