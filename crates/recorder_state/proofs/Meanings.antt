-- The state that a call hands back means what the document's recorder becomes.
use mathlib.Core.Path.{◌≡◌, sym, ap, ◌∙◌}
use mathlib.Core.Bool.{Bool, cond}
use Prim.Native.Nat.{ℕ}
use lib.Dec.{eqb}
use borrow.Author.Tests.{eqb-true, eqb-false, ne_eqb}
use Rattle.document.specs.Numbers.{done}
use Rattle.document.specs.Run.{Run, started, stopped}
use Rattle.document.specs.Recorder.{Recorder, recorder_started, recorder_halted}
use Rattle.document.specs.Recorder.Recorder.{absent, planned}
use Rattle.recorder_state.specs.declared.state.Recorder.{Recorder as RecorderState}
use Rattle.recorder_plans.specs.State.{plan_of}
use Rattle.recorder_runs.specs.State.{run_of, run_kept, halted_run}
use Rattle.recorder_state.specs.State.{recorder_of, with_run}
use Rattle.recorder_state.specs.Calls.{start_status, started_state, stop_status, halted_state}
use Rattle.document.proofs.Cases.{split}
use Rattle.recorder_runs.proofs.Flags.{run_read}
use Rattle.recorder_state.proofs.Readings.{at_absent, at_planned, at_running, at_stopped}

module _ (r : RecorderState) where
  -- by what the flags say
  by_flags : {P : Type 0} → (r.ready ≡ 0 → P) → ((r.ready ≡ 0 → ⊥) → r.run.running ≡ 1 → P)
      → ((r.ready ≡ 0 → ⊥) → (r.run.running ≡ 1 → ⊥) → P) → P
  by_flags a b c =
      split (eqb r.ready 0)
      (λ t. a (eqb-true r.ready 0 t))
      (λ f. split (eqb r.run.running 1)
      (λ t. b (eqb-false r.ready 0 f) (eqb-true r.run.running 1 t))
      (λ g. c (eqb-false r.ready 0 f) (eqb-false r.run.running 1 g)))

  -- set up, with another run
  pub with_run_read : (q : Run) → (r.ready ≡ 0 → ⊥) → recorder_of (with_run r q) ≡ planned (plan_of r.plan) q
  with_run_read q n =
      ap (λ (b : Bool). cond b absent (planned (plan_of r.plan) (run_of (run_kept q)))) (ne_eqb r.ready 0 n)
      ∙ ap (planned (plan_of r.plan)) (run_read q)

  -- what a call leaves by its status
  started_by : (k : ℕ) → start_status (recorder_of r) ≡ k → started_state r ≡ cond (eqb k done) (with_run r started) r
  started_by k e = ap (λ (s : ℕ). cond (eqb s done) (with_run r started) r) e

  pub started_means : recorder_of (started_state r) ≡ recorder_started (recorder_of r)
  started_means =
      by_flags
      (λ e. ap recorder_of (started_by 0x88 (at_absent start_status r e))
      ∙ at_absent (λ (x : Recorder). x) r e
      ∙ sym (at_absent recorder_started r e))
      (λ n e. ap recorder_of (started_by 0x01 (at_running start_status r n e))
      ∙ at_running (λ (x : Recorder). x) r n e
      ∙ sym (at_running recorder_started r n e))
      (λ n e. ap recorder_of (started_by 0x00 (at_stopped start_status r n e))
      ∙ with_run_read started n
      ∙ sym (at_stopped recorder_started r n e))

  halted_by : (k : ℕ) → stop_status (recorder_of r) ≡ k
      → halted_state r ≡ cond (eqb k done) (record { ready = r.ready; plan = r.plan; run = halted_run r.run }) r
  halted_by k e =
      ap (λ (s : ℕ). cond (eqb s done) (record { ready = r.ready; plan = r.plan; run = halted_run r.run }) r) e

  pub halted_means : recorder_of (halted_state r) ≡ recorder_halted (recorder_of r)
  halted_means =
      by_flags
      (λ e. ap recorder_of (halted_by 0x88 (at_absent stop_status r e))
      ∙ at_absent (λ (x : Recorder). x) r e
      ∙ sym (at_absent recorder_halted r e))
      (λ n e. ap recorder_of (halted_by 0x00 (at_running stop_status r n e))
      ∙ ap (λ (b : Bool). cond b absent (planned (plan_of r.plan) (stopped (run_of r.run)))) (ne_eqb r.ready 0 n)
      ∙ sym (at_planned recorder_halted r n))
      (λ n e. ap recorder_of (halted_by 0x02 (at_stopped stop_status r n e))
      ∙ at_stopped (λ (x : Recorder). x) r n e
      ∙ sym (at_stopped recorder_halted r n e))
