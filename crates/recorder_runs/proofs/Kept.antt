-- A sound run read from the struct and kept again is the same numbers.
use mathlib.Core.Path.{◌≡◌, refl, ap, ◌∙◌}
use mathlib.Core.Bool.{Bool, true, false}
use Prim.Native.Nat.{ℕ, zero, suc, ◌-◌, ◌≤◌}
use native.Mathlib.Omega.{arith}
use lib.Dec.{eqb}
use borrow.Author.Tests.{eqb-true, eqb-false}
use Rattle.document.specs.Run.{waited, stopped}
use Rattle.recorder_plans.specs.declared.plan.Plan.{Plan as PlanState}
use Rattle.recorder_runs.specs.declared.run.Run.{Run as RunState}
use Rattle.recorder_runs.specs.State.{is_set, flag_of, watch_of, watch_number, watch_value, run_of, run_kept, with_wait, with_watch, halted_run}
use Rattle.recorder_runs.specs.Bounds.{watch_sound, run_sound}
use Rattle.document.proofs.Cases.{split}
use Rattle.recorder_runs.proofs.Granted.{run_bounds, unprimed_zero, watch_two}

pub flag_again : (flag : ℕ) → flag ≤ 1 → flag_of (is_set flag) ≡ flag
flag_again zero h = refl
flag_again (suc zero) h = refl
flag_again (suc (suc n)) h = let x : ⊥ = omega arith in absurd x

-- by the watch of a sound run
pub by_watch : {P : Type 0} (size post running watch value : ℕ) → watch_sound size post running watch value ≡ true
    → (watch ≡ 0 → value ≡ 0 → P) → (watch ≡ 1 → P) → ((watch ≡ 0 → ⊥) → (watch ≡ 1 → ⊥) → watch ≡ 2 → P) → P
by_watch size post running watch value s a b c =
    split (eqb watch 0)
    (λ t. let e : watch ≡ 0 = eqb-true watch 0 t in a e (unprimed_zero size post running watch value s e))
    (λ f. split (eqb watch 1)
    (λ t. b (eqb-true watch 1 t))
    (λ g. let n0 : watch ≡ 0 → ⊥ = eqb-false watch 0 f in
    let n1 : watch ≡ 1 → ⊥ = eqb-false watch 1 g in
    c n0 n1 (watch_two size post running watch value s n0 n1)))

module _ (size post running watch value : ℕ) (s : watch_sound size post running watch value ≡ true) where
  watch_again : watch_number (watch_of watch value) ≡ watch
  watch_again = by_watch size post running watch value s (λ e z. rw e) (λ e. rw e) (λ n0 n1 e. rw e)

  value_again : watch_value (watch_of watch value) ≡ value
  value_again = by_watch size post running watch value s (λ e z. rw (e, z)) (λ e. rw e) (λ n0 n1 e. rw e)

module _ (p : PlanState) (r : RunState) (s : run_sound p r ≡ true) where
  -- whatever its flag and its wait
  kept_as : (running : Bool) (wait : ℕ)
      → run_kept (record { running = running; wait = wait; place = r.place; full = is_set r.full; watch = watch_of r.watch r.value })
      ≡ with_watch (with_wait r wait) (flag_of running) r.watch r.value
  kept_as running wait =
      let b = run_bounds p r s in
      let f = flag_again r.full b.full in
      let w = watch_again p.size p.post_trigger r.running r.watch r.value b.watch in
      let v = value_again p.size p.post_trigger r.running r.watch r.value b.watch in
      λ i. record { running = flag_of running; full = f i; watch = w i; wait = wait; place = r.place; value = v i }

  flag_same : (wait : ℕ) → with_watch (with_wait r wait) (flag_of (is_set r.running)) r.watch r.value ≡ with_wait r wait
  flag_same wait =
      ap (λ (k : ℕ). with_watch (with_wait r wait) k r.watch r.value) (flag_again r.running (run_bounds p r s).running)

  pub run_again : run_kept (run_of r) ≡ r
  run_again = kept_as (is_set r.running) r.wait ∙ flag_same r.wait

  pub waited_again : run_kept (waited (run_of r)) ≡ with_wait r (r.wait - 1)
  waited_again = kept_as (is_set r.running) (r.wait - 1) ∙ flag_same (r.wait - 1)

  pub halted_again : run_kept (stopped (run_of r)) ≡ halted_run r
  halted_again = kept_as false r.wait
