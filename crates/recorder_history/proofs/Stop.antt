-- When a recorder stops by itself: "post-trigger × (time divider + 1) ticks after the trigger". The ticks still due fall by
-- one with each tick, whatever the memory does.
use mathlib.Core.Path.{◌≡◌, refl, sym, ap, ◌∙◌}
use mathlib.Core.Bool.{Bool, true, false, cond}
use mathlib.Core.List.{List, [], ◌∷◌}
use Prim.Native.Nat.{ℕ, zero, suc, ◌+◌, ◌-◌, ◌*◌, ◌<◌, ◌≤◌}
use native.Mathlib.Nat.{suc-mul, zero-mul, sub-zero}
use native.Mathlib.Omega.{arith}
use lib.Dec.{ltb}
use lib.ListN.{length, length-append}
use borrow.Author.Tests.{ltb-true, ltb-false, lt-ltb, le-ltb}
use Rattle.document.specs.Plan.{Plan}
use Rattle.document.specs.Trigger.{trigger_value}
use Rattle.document.specs.Run.{Watch, Run, set_of, comes, watched, goes_on, set_taken, waited, ran_tick}
use Rattle.document.specs.Run.Watch.{unprimed, previous, triggered}
use Rattle.recorder_history.specs.History.{Event, Recording, stepped, after, taken_at, taken, ticks, Unstopped, TriggersNext, sets_left}
use Rattle.recorder_history.specs.History.Event.{tick, others, stop}
use Rattle.document.proofs.Cases.{split, neither}
use Rattle.recorder_history.proofs.Ticks.{by_case, stopped_run, stopped_taken, waits_run, waits_taken, takes_run, takes_taken}

-- the trigger has come
abbrev pub has_triggered : Watch → Bool
has_triggered unprimed = false
has_triggered (previous value) = false
has_triggered (triggered left) = true

-- ticks that are still to come, with so many sets left
abbrev pub due_in : ℕ → Bool → ℕ → ℕ → ℕ
due_in d running wait left = cond running (wait + 1 + (left - 1) * suc d) 0

-- all sets are left
due_all : (d n : ℕ) → due_in d (ltb 0 n) d n ≡ n * suc d
due_all d zero = sym (zero-mul (suc d))
due_all d (suc n) =
    let e : suc n - 1 ≡ n = omega arith in
    rw (lt-ltb 0 (suc n) (omega arith), e) (omega (arith, suc-mul n (suc d)))

-- a set is one less
due_less : (d left : ℕ) → 0 < left → due_in d (ltb 0 (left - 1)) d (left - 1) ≡ due_in d true 0 left - 1
due_less d left h = due_all d (left - 1) ∙ omega arith

before_end : (t n : ℕ) → ltb 0 (n - t) ≡ ltb t n
before_end t n =
    split (ltb t n)
    (λ y. rw y (lt-ltb 0 (n - t) (omega (arith, ltb-true t n y))))
    (λ f. rw f (le-ltb 0 (n - t) (omega (arith, ltb-false t n f))))

-- a run whose trigger has come goes on while sets are left, and only then
pub record Counting (r : Run) : Type 0 where
  pub came : has_triggered r.watch ≡ true
  pub runs : r.running ≡ goes_on r.watch

none_left : (w : Watch) → has_triggered w ≡ true → goes_on w ≡ false → sets_left w ≡ 0
none_left unprimed t g = refl
none_left (previous before) t g = refl
none_left (triggered left) t g = omega (arith, ltb-false 0 left g)

module _ (p : Plan) where
  abbrev pub due : Run → ℕ
  due r = due_in p.divider r.running r.wait (sets_left r.watch)

  -- n ticks later, with these sets taken
  record Down (r q : Run) (n : ℕ) (sets : List (List ℕ)) : Type 0 where
    counting : Counting q
    less : due q ≡ due r - n
    left : length sets + sets_left q.watch ≡ sets_left r.watch

  -- one set more, by how far the trigger has come
  record DownSet (w v : Watch) : Type 0 where
    came : has_triggered v ≡ true
    less : due_in p.divider (goes_on v) p.divider (sets_left v) ≡ due_in p.divider true 0 (sets_left w) - 1
    left : 1 + sets_left v ≡ sets_left w

  down_set : (w : Watch) (x : ℕ) → has_triggered w ≡ true → goes_on w ≡ true → DownSet w (watched p w x)
  down_set unprimed x t g = neither t
  down_set (previous before) x t g = neither t
  down_set (triggered left) x t g =
      let h : 0 < left = ltb-true 0 left g in
      record { came = refl; less = due_less p.divider left h; left = omega arith }

  down_takes : (r : Run) (m s : List ℕ) → Counting r → r.running ≡ true → r.wait ≡ 0 → Down r (set_taken p r m) 1 (s ∷ [])
  down_takes r m s c e z =
      let d = down_set r.watch (trigger_value p.trigger m) c.came (sym c.runs ∙ e) in
      record {
        counting = record { came = d.came; runs = refl };
        less = rw (e, z) d.less;
        left = d.left;
      }

  down_waits : (r : Run) → Counting r → r.running ≡ true → 0 < r.wait → Down r (waited r) 1 []
  down_waits r c e z =
      record {
        counting = record { came = c.came; runs = c.runs };
        less = rw e (omega arith);
        left = omega arith;
      }

  down_stopped : (r : Run) → Counting r → r.running ≡ false → Down r r 1 []
  down_stopped r c e = record { counting = c; less = rw e; left = omega arith }

  down_tick : (r : Run) (m : List ℕ) → Counting r → Down r (ran_tick p r m) 1 (taken_at p (record { run = r; memory = m }) tick)
  down_tick r m c =
      by_case r
      (λ e. rw (stopped_run p r m e, stopped_taken p r m e) (down_stopped r c e))
      (λ e z. rw (waits_run p r m e z, waits_taken p r m e z) (down_waits r c e z))
      (λ e z. rw (takes_run p r m e z, takes_taken p r m e z) (down_takes r m (set_of p m) c e z))

  down_after : (es : List Event) (g : Recording) → Unstopped es → Counting g.run
      → Down g.run (after p g es).run (ticks es) (taken p g es)
  down_after [] g u c = record { counting = c; less = sym (sub-zero _); left = omega arith }
  down_after (tick ∷ es) g u c =
      let d = down_tick g.run g.memory c in
      let a = down_after es (stepped p g tick) u d.counting in
      record {
        counting = a.counting;
        less = a.less ∙ omega (arith, d.less);
        left = rw (length-append (taken_at p g tick) (taken p (stepped p g tick) es)) (omega (arith, d.left, a.left));
      }
  down_after (others m ∷ es) g u c =
      let a = down_after es (stepped p g (others m)) u c in
      record { counting = a.counting; less = a.less; left = a.left }
  down_after (stop ∷ es) g u c = absurd u

  -- the trigger's own tick: all further sets are left
  pub record Fired (r : Run) : Type 0 where
    pub counting : Counting r
    pub all : due r ≡ p.post_trigger * suc p.divider
    pub left : sets_left r.watch ≡ p.post_trigger

  came_at : (w : Watch) (x : ℕ) → comes p.trigger w x ≡ true → watched p w x ≡ triggered p.post_trigger
  came_at unprimed x t = rw t
  came_at (previous before) x t = rw t
  came_at (triggered left) x t = neither t

  fired_set : (r : Run) (m : List ℕ) → comes p.trigger r.watch (trigger_value p.trigger m) ≡ true → Fired (set_taken p r m)
  fired_set r m t =
      let e = came_at r.watch (trigger_value p.trigger m) t in
      record {
        counting = record { came = rw e; runs = refl };
        all = rw e (due_all p.divider p.post_trigger);
        left = rw e;
      }

  pub fired_tick : (g : Recording) → TriggersNext p g → Fired (stepped p g tick).run
  fired_tick g t =
      rw (takes_run p g.run g.memory t.running t.due) (fired_set g.run g.memory t.comes_now)

  -- it runs while ticks are due
  runs_due : (r : Run) → Counting r → r.running ≡ ltb 0 (due r)
  runs_due r c =
      split r.running
      (λ t. rw (t, lt-ltb 0 (r.wait + 1 + (sets_left r.watch - 1) * suc p.divider) (omega arith)))
      (λ n. rw n)

-- the trigger came at a tick, and no stop since
module _ (p : Plan) (g : Recording) (es : List Event) (t : TriggersNext p g) (u : Unstopped es) where
  down : Down p (stepped p g tick).run (after p (stepped p g tick) es).run (ticks es) (taken p (stepped p g tick) es)
  down = down_after p es (stepped p g tick) u (fired_tick p g t).counting

  -- "Unless a stop comes sooner, it thus stops post-trigger × (time divider + 1) ticks after the trigger.": it runs until then
  -- and not longer; "With 0 it stops at that tick."
  pub stops : (after p (stepped p g tick) es).run.running ≡ ltb (ticks es) (p.post_trigger * suc p.divider)
  stops =
      runs_due p (after p (stepped p g tick) es).run down.counting
      ∙ ap (ltb 0) (down.less ∙ ap (λ (n : ℕ). n - ticks es) (fired_tick p g t).all)
      ∙ before_end (ticks es) (p.post_trigger * suc p.divider)

  -- "At a trigger, the post-trigger number of further sets is taken"
  pub further_sets : p.post_trigger * suc p.divider ≤ ticks es → length (taken p (stepped p g tick) es) ≡ p.post_trigger
  further_sets h =
      let q = (after p (stepped p g tick) es).run in
      let n : goes_on q.watch ≡ false =
      sym down.counting.runs ∙ stops ∙ le-ltb (ticks es) (p.post_trigger * suc p.divider) h in
      omega (arith, down.left, none_left q.watch down.counting.came n, (fired_tick p g t).left)
