-- The recorder takes the sets that the memories at the ticks alone give: what a run still takes is said of its state, and
-- each tick takes the first of it.
use mathlib.Core.Path.{◌≡◌, refl, sym, ap, ◌∙◌}
use mathlib.Core.Bool.{Bool, true, false, cond}
use mathlib.Core.List.{List, [], ◌∷◌, map}
use Prim.Native.Nat.{ℕ, suc, ◌-◌, ◌<◌}
use native.Mathlib.Omega.{arith}
use lib.Dec.{ltb}
use lib.ListN.{take}
use lib.Seq.{take-nil}
use borrow.Author.Tests.{ltb-true, ltb-false}
use Rattle.document.specs.Areas.{recorded_end}
use Rattle.document.specs.Plan.{Plan}
use Rattle.document.specs.Trigger.{trigger_value, fires, is_beyond}
use Rattle.document.specs.Run.{Watch, Run, place_begins, set_of, looked_at, watched, goes_on, set_taken, memory_after_tick}
use Rattle.document.specs.Run.Watch.{unprimed, previous, triggered}
use Rattle.document.specs.Sets.{every, until_stop, from_first, sets_taken}
use Rattle.recorder_history.specs.History.{PlanFits, CountsFit, Event, Recording, begun, stepped, taken, memories_left, memories_found}
use Rattle.recorder_history.specs.History.Event.{tick, others, stop}
use Rattle.document.proofs.Cases.{split}
use Rattle.memory_ranges.proofs.Stored.{take_sets}
use Rattle.recorder_history.proofs.Sources.{set_agrees, value_agrees}
use Rattle.recorder_history.proofs.Counts.{started_fits, tick_fits}
use Rattle.recorder_history.proofs.Ticks.{by_case, stopped_run, stopped_memory, stopped_taken, waits_run, waits_memory, waits_taken, takes_run, takes_memory, takes_taken}

-- as many as are left, none when none is
cut : (n : ℕ) (ms : List (List ℕ)) → take n ms ≡ cond (ltb 0 n) (take n ms) []
cut n ms = split (ltb 0 n) (λ t. rw t) (λ f. let z : n ≡ 0 = omega (arith, ltb-false 0 n f) in rw (f, z))

-- a wait passes one tick
every_waits : (d w : ℕ) (m : List ℕ) (ms : List (List ℕ)) → 0 < w → every d w (m ∷ ms) ≡ every d (w - 1) ms
every_waits d w m ms h = let e : w ≡ suc (w - 1) = omega arith in ap (λ (k : ℕ). every d k (m ∷ ms)) e

-- what a tick leaves below the buffer
below_kept : (p : Plan) (r : Run) (m : List ℕ) → take recorded_end (memory_after_tick p r m) ≡ take recorded_end m
below_kept p r m =
    by_case r
    (λ e. ap (take recorded_end) (stopped_memory p r m e))
    (λ e h. ap (take recorded_end) (waits_memory p r m e h))
    (λ e h. ap (take recorded_end) (takes_memory p r m e h)
    ∙ take_sets (set_of p m) m (place_begins p r.place) recorded_end (omega arith))

module _ (p : Plan) where
  -- of the memories at which sets are due, those of which sets are taken, by how far the trigger has come
  abbrev wanted : Watch → List (List ℕ) → List (List ℕ)
  wanted unprimed ms = from_first p ms
  wanted (previous before) ms = until_stop p before ms
  wanted (triggered left) ms = take left ms

  wanted_none : (w : Watch) → wanted w [] ≡ []
  wanted_none unprimed = refl
  wanted_none (previous before) = refl
  wanted_none (triggered left) = take-nil left

  -- a set at which the trigger comes, or does not
  looked_takes : (come : Bool) (m : List ℕ) (ms : List (List ℕ))
      → m ∷ cond come (take p.post_trigger ms) (until_stop p (trigger_value p.trigger m) ms)
      ≡ m ∷ cond (goes_on (looked_at p come (trigger_value p.trigger m))) (wanted (looked_at p come (trigger_value p.trigger m)) ms) []
  looked_takes true m ms = ap (λ (l : List (List ℕ)). m ∷ l) (cut p.post_trigger ms)
  looked_takes false m ms = refl

  -- a set is taken, and then what the next watch wants
  wanted_takes : (w : Watch) (m : List ℕ) (ms : List (List ℕ)) → goes_on w ≡ true
      → wanted w (m ∷ ms)
      ≡ m ∷ cond (goes_on (watched p w (trigger_value p.trigger m))) (wanted (watched p w (trigger_value p.trigger m)) ms) []
  wanted_takes unprimed m ms g = looked_takes (is_beyond p.trigger (trigger_value p.trigger m)) m ms
  wanted_takes (previous before) m ms g = looked_takes (fires p.trigger before (trigger_value p.trigger m)) m ms
  wanted_takes (triggered left) m ms g =
      let e : left ≡ suc (left - 1) = omega (arith, ltb-true 0 left g) in
      ap (λ (k : ℕ). take k (m ∷ ms)) e ∙ ap (λ (l : List (List ℕ)). m ∷ l) (cut (left - 1) ms)

  -- the sets that a run takes of the memories at the ticks to come
  abbrev due : Bool → ℕ → Watch → List (List ℕ) → List (List ℕ)
  due running wait w ms = map (set_of p) (cond running (wanted w (every p.divider wait ms)) [])

  due_none : (running : Bool) (wait : ℕ) (w : Watch) → due running wait w [] ≡ []
  due_none true wait w = ap (map (set_of p)) (wanted_none w)
  due_none false wait w = refl

  due_takes : (r : Run) (m n : List ℕ) (ms : List (List ℕ)) → r.running ≡ true → goes_on r.watch ≡ true → r.wait ≡ 0
      → set_of p m ≡ set_of p n → trigger_value p.trigger m ≡ trigger_value p.trigger n
      → due r.running r.wait r.watch (n ∷ ms)
      ≡ set_of p m ∷ due (set_taken p r m).running (set_taken p r m).wait (set_taken p r m).watch ms
  due_takes r m n ms e g z s v =
      rw (e, z, s, v) (ap (map (set_of p)) (wanted_takes r.watch n (every p.divider p.divider ms) g))

  due_waits : (r : Run) (n : List ℕ) (ms : List (List ℕ)) → 0 < r.wait
      → due r.running r.wait r.watch (n ∷ ms) ≡ due r.running (r.wait - 1) r.watch ms
  due_waits r n ms h = rw (every_waits p.divider r.wait n ms h)

  due_stopped : (r : Run) (n : List ℕ) (ms : List (List ℕ)) → r.running ≡ false
      → due r.running r.wait r.watch (n ∷ ms) ≡ due r.running r.wait r.watch ms
  due_stopped r n ms e = rw e

  -- memories ms, one for each tick until a stop, that agree below the buffer with what the ticks find
  abbrev Agree : Recording → List Event → List (List ℕ) → Type 0
  Agree g [] ms = ms ≡ []
  Agree g (tick ∷ es) [] = ⊥
  Agree g (tick ∷ es) (m ∷ ms) = (take recorded_end g.memory ≡ take recorded_end m) × Agree (stepped p g tick) es ms
  Agree g (others m ∷ es) ms = Agree (stepped p g (others m)) es ms
  Agree g (stop ∷ es) ms = ms ≡ []

  found_agree : (es : List Event) (g : Recording) → Agree g es (memories_found p g es)
  found_agree [] g = refl
  found_agree (tick ∷ es) g = (refl, found_agree es (stepped p g tick))
  found_agree (others m ∷ es) g = found_agree es (stepped p g (others m))
  found_agree (stop ∷ es) g = refl

  left_agree : (es : List Event) (g : Recording) (m : List ℕ) → take recorded_end g.memory ≡ take recorded_end m
      → Agree g es (memories_left m es)
  left_agree [] g m a = refl
  left_agree (tick ∷ es) g m a = (a, left_agree es (stepped p g tick) m (below_kept p g.run g.memory ∙ a))
  left_agree (others n ∷ es) g m a = left_agree es (stepped p g (others n)) n refl
  left_agree (stop ∷ es) g m a = refl

  -- a stopped run takes nothing more
  stopped_takes_none : (es : List Event) (g : Recording) → g.run.running ≡ false → taken p g es ≡ []
  stopped_takes_none [] g e = refl
  stopped_takes_none (tick ∷ es) g e =
      rw (stopped_taken p g.run g.memory e)
      (stopped_takes_none es (stepped p g tick) (ap (λ (r : Run). r.running) (stopped_run p g.run g.memory e) ∙ e))
  stopped_takes_none (others m ∷ es) g e = stopped_takes_none es (stepped p g (others m)) e
  stopped_takes_none (stop ∷ es) g e = stopped_takes_none es (stepped p g stop) refl

  module _ (f : PlanFits p) where
    taken_due : (es : List Event) (g : Recording) (ms : List (List ℕ)) → CountsFit p g.run → Agree g es ms
        → taken p g es ≡ due g.run.running g.run.wait g.run.watch ms
    taken_due [] g ms c a = rw a (sym (due_none g.run.running g.run.wait g.run.watch))
    taken_due (tick ∷ es) g [] c a = absurd a
    taken_due (tick ∷ es) g (m ∷ ms) c a =
        let i = taken_due es (stepped p g tick) ms (tick_fits p g.run g.memory c) a.1 in
        by_case g.run
        (λ e. rw (stopped_taken p g.run g.memory e)
        (i
        ∙ ap (λ (r : Run). due r.running r.wait r.watch ms) (stopped_run p g.run g.memory e)
        ∙ sym (due_stopped g.run m ms e)))
        (λ e h. rw (waits_taken p g.run g.memory e h)
        (i
        ∙ ap (λ (r : Run). due r.running r.wait r.watch ms) (waits_run p g.run g.memory e h)
        ∙ sym (due_waits g.run m ms h)))
        (λ e h. rw (takes_taken p g.run g.memory e h)
        (ap (λ (l : List (List ℕ)). set_of p g.memory ∷ l)
        (i ∙ ap (λ (r : Run). due r.running r.wait r.watch ms) (takes_run p g.run g.memory e h))
        ∙ sym
        (due_takes g.run g.memory m ms e (c.more e) h (set_agrees p f g.memory m a.0) (value_agrees p f g.memory m a.0))))
    taken_due (others m ∷ es) g ms c a = taken_due es (stepped p g (others m)) ms c a
    taken_due (stop ∷ es) g ms c a =
        stopped_takes_none es (stepped p g stop) refl
        ∙ rw a (sym (due_none g.run.running g.run.wait g.run.watch))

    -- the sets taken since a start are those of the memories as others left them
    pub taken_of_left : (m : List ℕ) (es : List Event) → taken p (begun m) es ≡ sets_taken p (memories_left m es)
    unfolding sets_taken
    taken_of_left m es = taken_due es (begun m) (memories_left m es) (started_fits p f) (left_agree es (begun m) m refl)

    -- and those of the memories that the ticks find
    pub taken_of_found : (m : List ℕ) (es : List Event) → taken p (begun m) es ≡ sets_taken p (memories_found p (begun m) es)
    unfolding sets_taken
    taken_of_found m es = taken_due es (begun m) (memories_found p (begun m) es) (started_fits p f) (found_agree es (begun m))
