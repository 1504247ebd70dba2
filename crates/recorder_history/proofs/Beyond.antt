-- From a start on the trigger comes at the first set at or beyond the threshold (2026-02): an edge needs a set that was not
-- there, and every earlier one was not.
use mathlib.Core.Path.{◌≡◌, refl, sym, ap, ◌∙◌}
use mathlib.Core.Bool.{Bool, true, false, ◌&&◌}
use mathlib.Core.List.{List, [], ◌∷◌, map}
use Prim.Native.Nat.{ℕ, suc, ◌*◌}
use lib.Dec.{eqb, ltb}
use borrow.Author.Tests.{eqb-true, ne_eqb}
use native.Mathlib.Omega.{arith}
use Rattle.document.specs.Plan.{Plan}
use Rattle.document.specs.Trigger.{trigger_value, fires, is_beyond}
use Rattle.document.specs.Run.{Watch, Run, set_of, comes, looked_at, watched, ran_tick}
use Rattle.document.specs.Run.Watch.{unprimed, previous, triggered}
use Rattle.document.specs.Sets.{every, until_stop, from_first, sets_taken}
use Rattle.document.proofs.Cases.{split, neither, both}
use Rattle.document.proofs.Levels.{edge_of_levels}
use Rattle.recorder_history.specs.History.{Event, Recording, begun, stepped, after, takes_next, beyond_in, NoneBeyond, until_beyond, TriggersNext, ticks, Unstopped}
use Rattle.recorder_history.specs.History.Event.{tick, others, stop}
use Rattle.recorder_history.proofs.Ticks.{by_case, stopped_run, waits_run, takes_run}
use Rattle.recorder_history.proofs.Stop.{has_triggered, stops}

module _ (p : Plan) where
  -- behind a set that was not there, an edge is a set that is
  edge_first : (before x : ℕ) → is_beyond p.trigger before ≡ false → fires p.trigger before x ≡ is_beyond p.trigger x
  edge_first before x n = edge_of_levels p.trigger before x ∙ rw n

  -- ---- the sets, without the recorder's state

  until : (ms : List (List ℕ)) (before : ℕ) → is_beyond p.trigger before ≡ false → until_stop p before ms ≡ until_beyond p ms
  until [] before n = refl
  until (m ∷ ms) before n =
      rw (edge_first before (trigger_value p.trigger m) n)
      (split (beyond_in p m) (λ t. rw t) (λ f. rw f (ap (λ (l : List (List ℕ)). m ∷ l) (until ms (trigger_value p.trigger m) f))))

  from_first_lem : (ms : List (List ℕ)) → from_first p ms ≡ until_beyond p ms
  from_first_lem [] = refl
  from_first_lem (m ∷ ms) =
      split (beyond_in p m) (λ t. rw t) (λ f. rw f (ap (λ (l : List (List ℕ)). m ∷ l) (until ms (trigger_value p.trigger m) f)))

  pub sets_until_beyond : (memories : List (List ℕ)) → sets_taken p memories ≡ map (set_of p) (until_beyond p (every p.divider 0 memories))
  unfolding sets_taken
  sets_until_beyond memories = ap (map (set_of p)) (from_first_lem (every p.divider 0 memories))

  -- ---- a run since a start

  -- the previous set was not at or beyond the threshold
  abbrev Short : Watch → Type 0
  Short unprimed = Unit {0}
  Short (previous before) = is_beyond p.trigger before ≡ false
  Short (triggered left) = Unit {0}

  comes_beyond : (w : Watch) (x : ℕ) → Short w → has_triggered w ≡ false → comes p.trigger w x ≡ is_beyond p.trigger x
  comes_beyond unprimed x s c = refl
  comes_beyond (previous before) x s c = edge_first before x s
  comes_beyond (triggered left) x s c = neither (sym c)

  short_looked : (come : Bool) (x : ℕ) → come ≡ is_beyond p.trigger x → Short (looked_at p come x)
  short_looked true x e = tt
  short_looked false x e = sym e

  short_watched : (w : Watch) (x : ℕ) → Short w → Short (watched p w x)
  short_watched unprimed x s = short_looked (is_beyond p.trigger x) x refl
  short_watched (previous before) x s = short_looked (fires p.trigger before x) x (edge_first before x s)
  short_watched (triggered left) x s = tt

  short_tick : (r : Run) (m : List ℕ) → Short r.watch → Short (ran_tick p r m).watch
  short_tick r m s =
      by_case r
      (λ e. rw (stopped_run p r m e) s)
      (λ e h. rw (waits_run p r m e h) s)
      (λ e h. rw (takes_run p r m e h) (short_watched r.watch (trigger_value p.trigger m) s))

  short_after : (es : List Event) (g : Recording) → Short g.run.watch → Short (after p g es).run.watch
  short_after [] g s = s
  short_after (tick ∷ es) g s = short_after es (stepped p g tick) (short_tick g.run g.memory s)
  short_after (others m ∷ es) g s = short_after es (stepped p g (others m)) s
  short_after (stop ∷ es) g s = short_after es (stepped p g stop) s

  -- a tick triggers exactly where it takes a set at or beyond the threshold
  triggered_watched : (w : Watch) (x : ℕ) → has_triggered w ≡ false → has_triggered (watched p w x) ≡ comes p.trigger w x
  triggered_watched unprimed x c = split (is_beyond p.trigger x) (λ t. rw t) (λ f. rw f)
  triggered_watched (previous before) x c = split (fires p.trigger before x) (λ t. rw t) (λ f. rw f)
  triggered_watched (triggered left) x c = neither (sym c)

  triggered_tick : (g : Recording) → Short g.run.watch → has_triggered g.run.watch ≡ false
      → has_triggered (stepped p g tick).run.watch ≡ takes_next g && beyond_in p g.memory
  triggered_tick g s c =
      by_case g.run
      (λ e. rw (stopped_run p g.run g.memory e, e) c)
      (λ e h. rw (waits_run p g.run g.memory e h, e, ne_eqb g.run.wait 0 (λ z. omega arith)) c)
      (λ e h. let x = trigger_value p.trigger g.memory in
      rw (takes_run p g.run g.memory e h, e, h) (triggered_watched g.run.watch x c ∙ comes_beyond g.run.watch x s c))

  -- no set was there, so none has triggered
  none_triggers : (es : List Event) (g : Recording) → Short g.run.watch → has_triggered g.run.watch ≡ false → NoneBeyond p g es
      → has_triggered (after p g es).run.watch ≡ false
  none_triggers [] g s c n = c
  none_triggers (tick ∷ es) g s c n =
      none_triggers es (stepped p g tick) (short_tick g.run g.memory s)
      (triggered_tick g s c ∙ split (takes_next g) (λ t. rw t (n.0 t)) (λ f. rw f)) n.1
  none_triggers (others m ∷ es) g s c n = none_triggers es (stepped p g (others m)) s c n
  none_triggers (stop ∷ es) g s c n = none_triggers es (stepped p g stop) s c n

  -- what has triggered stays so
  stays_watched : (w : Watch) (x : ℕ) → has_triggered w ≡ true → has_triggered (watched p w x) ≡ true
  stays_watched unprimed x t = neither t
  stays_watched (previous before) x t = neither t
  stays_watched (triggered left) x t = refl

  stays_tick : (r : Run) (m : List ℕ) → has_triggered r.watch ≡ true → has_triggered (ran_tick p r m).watch ≡ true
  stays_tick r m t =
      by_case r
      (λ e. rw (stopped_run p r m e) t)
      (λ e h. rw (waits_run p r m e h) t)
      (λ e h. rw (takes_run p r m e h) (stays_watched r.watch (trigger_value p.trigger m) t))

  stays : (es : List Event) (g : Recording) → has_triggered g.run.watch ≡ true → has_triggered (after p g es).run.watch ≡ true
  stays [] g t = t
  stays (tick ∷ es) g t = stays es (stepped p g tick) (stays_tick g.run g.memory t)
  stays (others m ∷ es) g t = stays es (stepped p g (others m)) t
  stays (stop ∷ es) g t = stays es (stepped p g stop) t

  -- none has triggered, so no set was there
  calm_none : (es : List Event) (g : Recording) → Short g.run.watch → has_triggered g.run.watch ≡ false
      → has_triggered (after p g es).run.watch ≡ false → NoneBeyond p g es
  calm_none [] g s c a = tt
  calm_none (tick ∷ es) g s c a =
      split (takes_next g && beyond_in p g.memory)
      (λ t. neither (sym a ∙ stays es (stepped p g tick) (triggered_tick g s c ∙ t)))
      (λ f. (
        λ t. sym (ap (λ (b : Bool). b && beyond_in p g.memory) t) ∙ f,
        calm_none es (stepped p g tick) (short_tick g.run g.memory s) (triggered_tick g s c ∙ f) a,
      ))
  calm_none (others m ∷ es) g s c a = calm_none es (stepped p g (others m)) s c a
  calm_none (stop ∷ es) g s c a = calm_none es (stepped p g stop) s c a

  awaited : (w : Watch) (x : ℕ) → comes p.trigger w x ≡ true → has_triggered w ≡ false
  awaited unprimed x t = refl
  awaited (previous before) x t = refl
  awaited (triggered left) x t = neither t

  module _ (m : List ℕ) (es : List Event) where
    abbrev now_at : Recording
    now_at = after p (begun m) es

    short_now : Short now_at.run.watch
    short_now = short_after es (begun m) tt

    -- where the trigger comes, the set is at or beyond the threshold, and none since the start was
    pub trigger_at_first : TriggersNext p now_at → (beyond_in p now_at.memory ≡ true) × NoneBeyond p (begun m) es
    trigger_at_first t =
        let x = trigger_value p.trigger now_at.memory in
        let c = awaited now_at.run.watch x t.comes_now in
        (sym (comes_beyond now_at.run.watch x short_now c) ∙ t.comes_now, calm_none es (begun m) tt refl c)

    -- and at such a set it comes
    pub first_triggers : takes_next now_at ≡ true → beyond_in p now_at.memory ≡ true → NoneBeyond p (begun m) es → TriggersNext p now_at
    first_triggers s b n =
        let two = both now_at.run.running (eqb now_at.run.wait 0) s in
        record {
          running = two.0;
          due = eqb-true now_at.run.wait 0 two.1;
          comes_now = comes_beyond now_at.run.watch (trigger_value p.trigger now_at.memory) short_now (none_triggers es (begun m) tt refl n) ∙ b;
        }

  -- "post-trigger × (time divider + 1) ticks after the trigger", where the first set is there
  pub stops_from_first : (m : List ℕ) (es : List Event) → beyond_in p m ≡ true → Unstopped es
      → (after p (begun m) (tick ∷ es)).run.running ≡ ltb (ticks es) (p.post_trigger * suc p.divider)
  stops_from_first m es b u = stops p (begun m) es (first_triggers m [] refl b tt) u
