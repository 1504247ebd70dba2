-- A recorder that no stop reaches runs until its trigger comes, and stops by itself only after one; with mode 0 none comes.
use mathlib.Core.Path.{◌≡◌, refl, sym, ap, ◌∙◌}
use mathlib.Core.Bool.{true, false}
use mathlib.Core.List.{List, [], ◌∷◌}
use Prim.Native.Nat.{ℕ, suc, ◌*◌}
use borrow.Author.Tests.{ltb-false}
use Rattle.document.specs.Plan.{Plan}
use Rattle.document.specs.Trigger.{trigger_value, fires, is_beyond}
use Rattle.document.specs.Run.{Watch, Run, comes, watched, goes_on}
use Rattle.document.specs.Run.Watch.{unprimed, previous, triggered}
use Rattle.recorder_history.specs.History.{Event, Recording, begun, stepped, after, ticks, Unstopped, TriggersNext, StoppedByTrigger}
use Rattle.recorder_history.specs.History.Event.{tick, others, stop}
use Rattle.document.proofs.Cases.{split, neither}
use Rattle.recorder_history.proofs.Ticks.{by_case, waits_run, takes_run}
use Rattle.recorder_history.proofs.Stop.{has_triggered, stops}

-- no trigger has come, and it runs
record Watching (r : Run) : Type 0 where
  running : r.running ≡ true
  calm : has_triggered r.watch ≡ false

-- by whether the trigger comes at a set
by_set : {P : Type 0} (p : Plan) (w : Watch) (x : ℕ) → has_triggered w ≡ false
    → (comes p.trigger w x ≡ true → P)
    → (goes_on (watched p w x) ≡ true → has_triggered (watched p w x) ≡ false → P) → P
by_set p unprimed x c come come-not = split (is_beyond p.trigger x) come (λ f. come-not (rw f) (rw f))
by_set p (previous before) x c come come-not = split (fires p.trigger before x) come (λ f. come-not (rw f) (rw f))
by_set p (triggered left) x c come come-not = neither (sym c)

module _ (p : Plan) where
  -- one event more in front
  extended : (g : Recording) (e : Event) (es : List Event) → StoppedByTrigger p (stepped p g e) es → StoppedByTrigger p g (e ∷ es)
  extended g e es s =
      record {
        earlier = e ∷ s.earlier;
        later = s.later;
        parts = ap (λ (l : List Event). e ∷ l) s.parts;
        came = s.came;
        over = s.over;
      }

  -- it ran, does not now, and no stop came: so a trigger did
  stopped_from : (es : List Event) (g : Recording) → Watching g.run → Unstopped es → (after p g es).run.running ≡ false
      → StoppedByTrigger p g es
  stopped_from [] g w u e = neither (sym e ∙ w.running)
  stopped_from (tick ∷ es) g w u e =
      by_case g.run
      (λ s. neither (sym s ∙ w.running))
      (λ r z. extended g tick es
      (stopped_from es (stepped p g tick)
      (rw (waits_run p g.run g.memory r z) (record { running = w.running; calm = w.calm })) u e))
      (λ r z. by_set p g.run.watch (trigger_value p.trigger g.memory) w.calm
      (λ t.
      let n : TriggersNext p g = record { running = r; due = z; comes_now = t } in
      record {
        earlier = [];
        later = es;
        parts = refl;
        came = n;
        over = ltb-false (ticks es) (p.post_trigger * suc p.divider) (sym (stops p g es n u) ∙ e);
      })
      (λ n c. extended g tick es
      (stopped_from es (stepped p g tick) (rw (takes_run p g.run g.memory r z) (record { running = n; calm = c })) u e)))
  stopped_from (others m ∷ es) g w u e =
      extended g (others m) es
      (stopped_from es (stepped p g (others m)) (record { running = w.running; calm = w.calm }) u e)
  stopped_from (stop ∷ es) g w u e = absurd u

  -- with no stop since the start, it stops by a trigger and by nothing else
  pub stops_by_trigger : (m : List ℕ) (es : List Event) → Unstopped es → (after p (begun m) es).run.running ≡ false
      → StoppedByTrigger p (begun m) es
  stops_by_trigger m es u e = stopped_from es (begun m) (record { running = refl; calm = refl }) u e

  no_mode : (w : Watch) (x : ℕ) → p.trigger.mode ≡ 0 → comes p.trigger w x ≡ false
  unfolding fires is_beyond
  no_mode unprimed x e = rw e
  no_mode (previous before) x e = rw e
  no_mode (triggered left) x e = refl

  -- with mode 0 it never stops by itself
  pub mode_0_runs : (m : List ℕ) (es : List Event) → p.trigger.mode ≡ 0 → Unstopped es → (after p (begun m) es).run.running ≡ true
  mode_0_runs m es z u =
      split (after p (begun m) es).run.running
      (λ t. t)
      (λ f. let s = stops_by_trigger m es u f in
      let g = after p (begun m) s.earlier in
      neither (sym (no_mode g.run.watch (trigger_value p.trigger g.memory) z) ∙ s.came.comes_now))
