-- A tick of a sound state, case by case: what it leaves of the recorder and of the memory.
use mathlib.Core.Path.{◌≡◌, refl, ap, ◌∙◌}
use mathlib.Core.Bool.{Bool, true, false, cond}
use mathlib.Core.List.{List}
use Prim.Native.Nat.{ℕ, ◌-◌, ◌<◌}
use native.Mathlib.Omega.{arith}
use borrow.Author.Tests.{eq-eqb, ne_eqb}
use Rattle.document.specs.Stores.{stored}
use Rattle.document.specs.Run.{Run, place_begins, set_of, set_taken, ran_tick, memory_after_tick}
use Rattle.document.specs.Recorder.{Recorder, ticked_memory}
use Rattle.recorder_history.proofs.Ticks.{stopped_run, stopped_memory, waits_run, waits_memory, takes_run, takes_memory}
use Rattle.recorder_plans.specs.State.{plan_of}
use Rattle.recorder_runs.specs.declared.run.Run.{Run as RunState}
use Rattle.recorder_runs.specs.State.{is_set, run_of, run_kept, with_wait}
use Rattle.recorder_runs.proofs.Granted.{run_bounds}
use Rattle.recorder_runs.proofs.Kept.{run_again, waited_again}
use Rattle.recorder_state.specs.declared.state.Recorder.{Recorder as RecorderState}
use Rattle.recorder_state.specs.State.{recorder_of, with_run}
use Rattle.recorder_state.specs.Bounds.{sound}
use Rattle.recorder_state.proofs.Readings.{at_absent, at_planned}
use Rattle.recorder_state.proofs.Keeps.{Parts, sound_parts}
use Rattle.recorder_taking.specs.Tick.{ticked_state}

module _ (r : RecorderState) (m : List ℕ) where
  -- the recorder and the memory that a tick leaves
  abbrev pub Leaves : RecorderState → List ℕ → Type 0
  Leaves next left = (ticked_state r m ≡ next) × (ticked_memory (recorder_of r) m ≡ left)

  pub absent_leaves : r.ready ≡ 0 → Leaves r m
  absent_leaves e = (
    ap (λ (b : Bool). cond b r (with_run r (ran_tick (plan_of r.plan) (run_of r.run) m))) (eq-eqb r.ready 0 e),
    at_absent (λ (x : Recorder). ticked_memory x m) r e,
  )

  module _ (s : sound r ≡ true) (n : r.ready ≡ 0 → ⊥) where
    pub parts : Parts r
    parts = sound_parts r s (ne_eqb r.ready 0 n)

    planned_memory : ticked_memory (recorder_of r) m ≡ memory_after_tick (plan_of r.plan) (run_of r.run) m
    planned_memory = at_planned (λ (x : Recorder). ticked_memory x m) r n

    -- the struct with another run
    with_run_lem : (q : RunState) (run : Run) → run_kept run ≡ q → ran_tick (plan_of r.plan) (run_of r.run) m ≡ run
        → ticked_state r m ≡ record { ready = r.ready; plan = r.plan; run = q }
    with_run_lem q run e t =
        ap (λ (b : Bool). cond b r (with_run r (ran_tick (plan_of r.plan) (run_of r.run) m))) (ne_eqb r.ready 0 n)
        ∙ (λ i. record { ready = r.ready; plan = r.plan; run = (ap run_kept t ∙ e) i })

    pub stopped_leaves : r.run.running ≡ 0 → Leaves r m
    stopped_leaves z =
        let f : is_set r.run.running ≡ false = rw z in (
          with_run_lem r.run (run_of r.run) (run_again r.plan r.run parts.run) (stopped_run (plan_of r.plan) (run_of r.run) m f),
          planned_memory ∙ stopped_memory (plan_of r.plan) (run_of r.run) m f,
        )

    module _ (g : r.run.running ≡ 0 → ⊥) where
      pub runs : r.run.running ≡ 1
      runs = omega (arith, (run_bounds r.plan r.run parts.run).running, g)

      set_flag : is_set r.run.running ≡ true
      set_flag = eq-eqb r.run.running 1 runs

      pub waiting_leaves : 0 < r.run.wait
          → Leaves
          (record {
            ready = r.ready;
            plan = r.plan;
            run = with_wait r.run (r.run.wait - 1);
          })
          m
      waiting_leaves w = (
        with_run_lem _ _ (waited_again r.plan r.run parts.run) (waits_run (plan_of r.plan) (run_of r.run) m set_flag w),
        planned_memory ∙ waits_memory (plan_of r.plan) (run_of r.run) m set_flag w,
      )

      pub due_leaves : r.run.wait ≡ 0
          → Leaves
          (with_run r (set_taken (plan_of r.plan) (run_of r.run) m))
          (stored m (place_begins (plan_of r.plan) r.run.place) (set_of (plan_of r.plan) m))
      due_leaves z = (
        with_run_lem _ _ refl (takes_run (plan_of r.plan) (run_of r.run) m set_flag z),
        planned_memory ∙ takes_memory (plan_of r.plan) (run_of r.run) m set_flag z,
      )
