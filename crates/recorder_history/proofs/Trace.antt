-- The trigger's own set is kept where post-trigger is below 'samples': at most so many sets are taken behind it, and the last 'samples'
-- sets are read.
use mathlib.Core.Path.{◌≡◌, refl, sym, ap, ◌∙◌}
use mathlib.Core.Bool.{Bool, true}
use mathlib.Core.List.{List, [], ◌∷◌, ◌++◌, append_assoc}
use Prim.Native.Nat.{ℕ, min, ◌+◌, ◌-◌, ◌<◌, ◌≤◌}
use native.Mathlib.Omega.{arith}
use lib.ListN.{length, drop, length-append}
use lib.Seq.{drop-append-le}
use borrow.Author.Tests.{ltb-true}
use Rattle.document.specs.Areas.{memory_end}
use Rattle.document.specs.Plan.{Plan}
use Rattle.document.specs.Trigger.{trigger_value}
use Rattle.document.specs.Run.{Watch, Run, start_index, set_of, watched, goes_on, ran_tick}
use Rattle.document.specs.Run.Watch.{unprimed, previous, triggered}
use Rattle.document.specs.Sets.{sets_taken, read_round, last_of}
use Rattle.recorder_history.specs.History.{PlanFits, Event, Recording, begun, stepped, after, AllLeaveBuffer, taken_at, taken, memories_left, TriggersNext, sets_left}
use Rattle.recorder_history.specs.History.Event.{tick, others, stop}
use Rattle.recorder_history.specs.Trace.{Among}
use Rattle.document.proofs.Cases.{neither}
use Rattle.recorder_history.proofs.Ticks.{by_case, stopped_run, stopped_taken, waits_run, waits_taken, takes_run, takes_taken}
use Rattle.recorder_history.proofs.Sets.{taken_of_left}
use Rattle.recorder_history.proofs.History.{history}
use Rattle.recorder_history.proofs.Stop.{has_triggered, fired_tick}

-- ---- at most post-trigger sets behind the trigger's own, whether a stop comes or not

-- the trigger has come, and a run that goes on has sets left
record Counts (running : Bool) (w : Watch) : Type 0 where
  came : has_triggered w ≡ true
  more : running ≡ true → goes_on w ≡ true

-- one set more, by how far the trigger has come
one_less : (p : Plan) (w : Watch) (x : ℕ) → has_triggered w ≡ true → goes_on w ≡ true
    → (has_triggered (watched p w x) ≡ true) × (1 + sets_left (watched p w x) ≤ sets_left w)
one_less p unprimed x t g = neither t
one_less p (previous before) x t g = neither t
one_less p (triggered left) x t g = (refl, omega (arith, ltb-true 0 left g))

module _ (p : Plan) where
  -- behind these sets
  record Fewer (r q : Run) (sets : List (List ℕ)) : Type 0 where
    counts : Counts q.running q.watch
    left : length sets + sets_left q.watch ≤ sets_left r.watch

  fewer_tick : (r : Run) (m : List ℕ) → Counts r.running r.watch → Fewer r (ran_tick p r m) (taken_at p (record { run = r; memory = m }) tick)
  fewer_tick r m c =
      by_case r
      (λ e. rw (stopped_run p r m e, stopped_taken p r m e) (record { counts = c; left = omega arith }))
      (λ e z. rw (waits_run p r m e z, waits_taken p r m e z) (record { counts = record { came = c.came; more = c.more }; left = omega arith }))
      (λ e z. let d = one_less p r.watch (trigger_value p.trigger m) c.came (c.more e) in
      rw (takes_run p r m e z, takes_taken p r m e z) (record { counts = record { came = d.0; more = λ on. on }; left = d.1 }))

  few_left : (es : List Event) (g : Recording) → Counts g.run.running g.run.watch → length (taken p g es) ≤ sets_left g.run.watch
  few_left [] g c = omega arith
  few_left (tick ∷ es) g c =
      let f = fewer_tick g.run g.memory c in
      rw (length-append (taken_at p g tick) (taken p (stepped p g tick) es)) (omega (arith, f.left, few_left es (stepped p g tick) f.counts))
  few_left (others m ∷ es) g c = few_left es (stepped p g (others m)) c
  few_left (stop ∷ es) g c = few_left es (stepped p g stop) (record { came = c.came; more = λ e. neither e })

  -- "At a trigger, the post-trigger number of further sets is taken": never more
  pub few_further : (g : Recording) (es : List Event) → TriggersNext p g → length (taken p (stepped p g tick) es) ≤ p.post_trigger
  few_further g es t =
      let f = fired_tick p g t in
      omega (arith, few_left es (stepped p g tick) (record { came = f.counting.came; more = λ e. sym f.counting.runs ∙ e }), f.left)

  -- ---- the trigger's own set

  taken_append : (es fs : List Event) (g : Recording) → taken p g (es ++ fs) ≡ taken p g es ++ taken p (after p g es) fs
  taken_append [] fs g = refl
  taken_append (e ∷ es) fs g =
      ap (λ (l : List (List ℕ)). taken_at p g e ++ l) (taken_append es fs (stepped p g e))
      ∙ sym (append_assoc (taken_at p g e) (taken p (stepped p g e) es) (taken p (after p (stepped p g e) es) fs))

  -- the last n of a list, in which fewer than n stand behind x
  among_last : (n k : ℕ) (before : List (List ℕ)) (x : List ℕ) (behind : List (List ℕ)) → length behind ≤ k → k < n
      → Among x k (last_of n (before ++ x ∷ behind))
  among_last n k before x behind few small =
      let count = length (before ++ x ∷ behind) - n in
      record {
        before = drop count before;
        behind = behind;
        parts = drop-append-le count before (x ∷ behind) (omega (arith, length-append before (x ∷ behind)));
        few = few;
      }

  module _ (m : List ℕ) (es fs : List Event) (f : PlanFits p) (l : length m ≡ memory_end) (q : AllLeaveBuffer p (begun m) (es ++ tick ∷ fs))
      (t : TriggersNext p (after p (begun m) es)) (few : p.post_trigger < p.samples) where
    -- after whatever happens it is read, oldest sets first, with at most post-trigger sets behind it
    pub trigger_kept : Among (set_of p (after p (begun m) es).memory) p.post_trigger
        (read_round p (after p (begun m) (es ++ tick ∷ fs)).memory (start_index (after p (begun m) (es ++ tick ∷ fs)).run) (min (length (sets_taken p (memories_left m (es ++ tick ∷ fs)))) p.samples))
    trigger_kept =
        let g = after p (begun m) es in
        let later = taken p (stepped p g tick) fs in
        let parts : sets_taken p (memories_left m (es ++ tick ∷ fs)) ≡ taken p (begun m) es ++ set_of p g.memory ∷ later =
        sym (taken_of_left p f m (es ++ tick ∷ fs)) ∙ taken_append es (tick ∷ fs) (begun m)
        ∙ ap (λ (s : List (List ℕ)). taken p (begun m) es ++ (s ++ later)) (takes_taken p g.run g.memory t.running t.due) in
        rw (history p m (es ++ tick ∷ fs) f l q, parts)
        (among_last p.samples p.post_trigger (taken p (begun m) es) (set_of p g.memory) later (few_further g fs t) few)
