-- What the bounds of a run give, fact by fact.
use mathlib.Core.Path.{◌≡◌, sym}
use mathlib.Core.Bool.{Bool, true, false, ◌&&◌, ◌||◌}
use Prim.Native.Nat.{ℕ, ◌*◌, ◌^◌, ◌<◌, ◌≤◌}
use native.Mathlib.Omega.{arith}
use lib.Dec.{eqb, ltb, leb}
use borrow.Author.Tests.{eqb-true, ltb-true, leb-true, leb-false, ne_eqb}
use Rattle.recorder_plans.specs.declared.plan.Plan.{Plan as PlanState}
use Rattle.recorder_runs.specs.declared.run.Run.{Run as RunState}
use Rattle.recorder_runs.specs.Bounds.{watch_sound, run_sound}
use Rattle.document.proofs.Cases.{split, neither, both}

-- of a choice whose first does not hold
second_of : (a b : Bool) → a ≡ false → a || b ≡ true → b ≡ true
second_of true b f e = neither (sym f)
second_of false b f e = e

pub record RunBounds (p : PlanState) (r : RunState) : Type 0 where
  pub running : r.running ≤ 1
  pub full : r.full ≤ 1
  pub wait : r.wait ≤ p.divider
  pub place : r.place < p.samples
  pub watch : watch_sound p.size p.post_trigger r.running r.watch r.value ≡ true

pub run_bounds : (p : PlanState) (r : RunState) → run_sound p r ≡ true → RunBounds p r
unfolding run_sound
run_bounds p r e =
    let running = leb r.running 1 in
    let full = leb r.full 1 in
    let wait = leb r.wait p.divider in
    let place = ltb r.place p.samples in
    let all = both ((running && full) && (wait && place)) (watch_sound p.size p.post_trigger r.running r.watch r.value) e in
    let front = both (running && full) (wait && place) all.0 in
    let flags = both running full front.0 in
    let counts = both wait place front.1 in
    record {
      running = leb-true r.running 1 flags.0;
      full = leb-true r.full 1 flags.1;
      wait = leb-true r.wait p.divider counts.0;
      place = ltb-true r.place p.samples counts.1;
      watch = all.1;
    }

module _ (size post running watch value : ℕ) (s : watch_sound size post running watch value ≡ true) where
  pub unprimed_zero : watch ≡ 0 → value ≡ 0
  unprimed_zero e = eqb-true value 0 (rw e at s)

  pub previous_fits : watch ≡ 1 → value < 2 ^ (8 * size)
  previous_fits e = ltb-true value (2 ^ (8 * size)) (rw e at s)

  -- neither unprimed nor previous: triggered
  module _ (n0 : watch ≡ 0 → ⊥) (n1 : watch ≡ 1 → ⊥) where
    counted : (eqb watch 2 && leb value post && (eqb running 0 || ltb 0 value)) ≡ true
    counted = rw (ne_eqb watch 0 n0, ne_eqb watch 1 n1) at s

    parts : ((eqb watch 2 && leb value post) ≡ true) × ((eqb running 0 || ltb 0 value) ≡ true)
    parts = both (eqb watch 2 && leb value post) (eqb running 0 || ltb 0 value) counted

    pub watch_two : watch ≡ 2
    watch_two = eqb-true watch 2 (both (eqb watch 2) (leb value post) parts.0).0

    pub left_fits_post : value ≤ post
    left_fits_post = leb-true value post (both (eqb watch 2) (leb value post) parts.0).1

    pub left_some : running ≡ 1 → 1 ≤ value
    left_some e = ltb-true 0 value (second_of (eqb running 0) (ltb 0 value) (rw e) parts.1)

  -- not triggered: unprimed or previous
  pub awaits : (watch ≡ 2 → ⊥) → watch ≤ 1
  awaits n =
      split (leb watch 1)
      (λ t. leb-true watch 1 t)
      (λ f. let h : 1 < watch = leb-false watch 1 f in absurd (n (watch_two (λ e. omega arith) (λ e. omega arith))))
