-- A recorder prepared, from whether the recorder runs and what the data part is answered with.
use mathlib.Core.Path.{◌≡◌, refl, ap, ◌∙◌}
use mathlib.Core.Bool.{Bool, true}
use mathlib.Core.List.{List}
use Prim.Native.Nat.{ℕ, ◌≤◌, ◌<◌, ◌*◌, ◌^◌}
use native.Mathlib.Omega.{arith}
use borrow.Author.Tests.{eq-eqb, ne_eqb}
use Rattle.document.specs.Numbers.{done, busy}
use Rattle.document.specs.Plan.{Plan, plan_in}
use Rattle.document.specs.Run.{started, prepared}
use Rattle.document.specs.Recorder.{is_running, recorder_prepared, recorder_started}
use Rattle.document.specs.Recorder.Recorder.{absent, planned}
use Rattle.recorder_state.specs.declared.state.Recorder.{Recorder as RecorderState}
use Rattle.recorder_state.specs.State.{recorder_of, no_recorder}
use Rattle.recorder_plans.specs.Bounds.{plan_sound}
use Rattle.recorder_state.specs.Bounds.{sound}
use Rattle.recorder_setups.specs.Setup.{body_status, plan_read}
use Rattle.recorder_state.specs.Preparing.{prepare_status, prepared_state, both_next}
use Rattle.recorder_state.specs.Calls.{started_state}
use Rattle.document.proofs.Cases.{split}
use Rattle.recorder_setups.proofs.SetUps.{accepted_means, accepted_sound}
use Rattle.recorder_runs.proofs.Keeps.{prepared_run_sound}

module _ (running ex : Bool) (body : List ℕ) (taken : prepare_status running ex body ≡ done) where
  -- nothing refuses only where it does not run, and where the data part is answered so
  pub taken-body : body_status ex body ≡ done
  unfolding prepare_status
  taken-body =
      split running
      (λ t. let x : ◌≡◌ {A = ℕ} busy done = rw t at taken in let y : ⊥ = omega arith in absurd y)
      (λ f. rw f at taken)

  -- accepted, the struct means the document's recorder
  pub prepared-means : recorder_of (prepared_state ex body) ≡ recorder_prepared ex body
  prepared-means = ap (λ (p : Plan). planned p prepared) (accepted_means ex body taken-body)

  -- and is within the bounds: the threshold's bytes hold a number of its size
  pub prepared-sound : ((plan_in ex body).trigger.size ≤ 4 → (plan_in ex body).trigger.threshold < 2 ^ (8 * (plan_in ex body).trigger.size))
      → sound (prepared_state ex body) ≡ true
  prepared-sound t =
      let p : plan_sound (plan_read ex body) ≡ true = accepted_sound ex body taken-body t in
      rw (p, prepared_run_sound (plan_read ex body) p)

-- ---- prepared and started

module _ (r : RecorderState) (ex : Bool) (body : List ℕ) where
  pub both-refused : (prepare_status (is_running (recorder_of r)) ex body ≡ done → ⊥) → both_next r ex body ≡ r
  unfolding both_next
  both-refused some = rw (ne_eqb (prepare_status (is_running (recorder_of r)) ex body) done some)

  module _ (taken : prepare_status (is_running (recorder_of r)) ex body ≡ done) where
    pub both-taken : both_next r ex body ≡ started_state (prepared_state ex body)
    unfolding both_next
    both-taken = rw (eq-eqb (prepare_status (is_running (recorder_of r)) ex body) done taken)

    pub both-mean : recorder_of (both_next r ex body) ≡ recorder_started (recorder_prepared ex body)
    both-mean =
        ap recorder_of both-taken
        ∙ ap (λ (p : Plan). planned p started) (accepted_means ex body (taken-body (is_running (recorder_of r)) ex body taken))

-- at reset nothing is set up, and the state is sound
pub new-means : recorder_of no_recorder ≡ absent
new-means = refl

pub new_sound : sound no_recorder ≡ true
new_sound = refl
