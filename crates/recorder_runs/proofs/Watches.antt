-- What a set makes of the watch for the trigger, as the struct keeps it.
use mathlib.Core.Path.{◌≡◌, sym, ap, ◌∙◌}
use mathlib.Core.Bool.{Bool}
use mathlib.Core.List.{List}
use Prim.Native.Nat.{ℕ, ◌≤◌}
use native.Mathlib.Omega.{arith}
use lib.Dec.{eqb}
use borrow.Author.Tests.{eq-eqb, eqb-false}
use Rattle.document.specs.Plan.{Plan, Trigger}
use Rattle.document.specs.Trigger.{trigger_value, fires, is_beyond}
use Rattle.document.specs.Run.{Watch, comes, looked_at, watched, place_after, full_after, set_taken}
use Rattle.document.specs.Run.Watch.{unprimed, previous, triggered}
use Rattle.document.proofs.Cases.{split}
use Rattle.recorder_plans.specs.declared.plan.Plan.{Plan as PlanState}
use Rattle.recorder_runs.specs.declared.run.Run.{Run as RunState}
use Rattle.recorder_plans.specs.State.{trigger_of, plan_of}
use Rattle.recorder_runs.specs.State.{is_set, flag_of, watch_of, run_of, run_kept, with_wait, with_place, with_watch, watching}

-- a run that goes on keeps its flag
pub still_running : (r : RunState) (watch value : ℕ) → r.running ≡ 1 → with_watch r r.running watch value ≡ with_watch r 1 watch value
still_running r watch value e = ap (λ (k : ℕ). with_watch r k watch value) e

-- the trigger has not come
abbrev Awaited : Watch → Type 0
Awaited unprimed = Unit {0}
Awaited (previous before) = Unit {0}
Awaited (triggered left) = ⊥

awaited : (watch value : ℕ) → watch ≤ 1 → Awaited (watch_of watch value)
awaited watch value h =
    split (eqb watch 0)
    (λ z. rw z tt)
    (λ n. rw (n, eq-eqb watch 1 (omega (arith, eqb-false watch 0 n))) tt)

-- what the trigger's coming is, as the watch is kept
module _ (t : Trigger) (watch value x : ℕ) where
  pub first_comes : watch ≡ 0 → is_beyond t x ≡ comes t (watch_of watch value) x
  first_comes e = ap (λ (w : ℕ). comes t (watch_of w value) x) (sym e)

  pub later_comes : watch ≡ 1 → fires t value x ≡ comes t (watch_of watch value) x
  later_comes e = ap (λ (w : ℕ). comes t (watch_of w value) x) (sym e)

module _ (p : Plan) (r : RunState) (x : ℕ) where
  abbrev after : Watch → RunState
  after w = watching r (watched p w x)

  pub counted_set : r.watch ≡ 2 → after (triggered r.value) ≡ after (watch_of r.watch r.value)
  counted_set e = ap (λ (w : ℕ). after (watch_of w r.value)) (sym e)

  looked : (w : Watch) (b : Bool) → Awaited w → b ≡ comes p.trigger w x → watching r (looked_at p b x) ≡ after w
  looked unprimed b a f = ap (λ (t : Bool). watching r (looked_at p t x)) f
  looked (previous before) b a f = ap (λ (t : Bool). watching r (looked_at p t x)) f
  looked (triggered left) b a f = absurd a

  pub looked_set : (b : Bool) → r.watch ≤ 1 → b ≡ comes p.trigger (watch_of r.watch r.value) x
      → watching r (looked_at p b x) ≡ after (watch_of r.watch r.value)
  looked_set b h f = looked (watch_of r.watch r.value) b (awaited r.watch r.value h) f

-- the state after a set, from its place, its wait and its watch
module _ (p : PlanState) (r q : RunState) (x : ℕ) (m : List ℕ) where
  -- its wait begun anew, and its place gone on
  abbrev placed : RunState
  placed = with_place (with_wait r p.divider) (flag_of (full_after p.samples r.place (is_set r.full))) (place_after p.samples r.place)

  pub set_kept : q ≡ placed → x ≡ trigger_value (trigger_of p) m
      → watching q (watched (plan_of p) (watch_of q.watch q.value) x) ≡ run_kept (set_taken (plan_of p) (run_of r) m)
  set_kept e v =
      ap (λ (s : RunState). watching s (watched (plan_of p) (watch_of s.watch s.value) x)) e
      ∙ ap (λ (y : ℕ). watching placed (watched (plan_of p) (watch_of r.watch r.value) y)) v
