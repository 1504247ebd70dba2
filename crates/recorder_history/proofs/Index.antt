-- "The start index is 0 until 'samples' sets are taken, then the place that would be written next.", whoever writes the buffer.
use mathlib.Core.Path.{◌≡◌, sym, ap, ◌∙◌}
use mathlib.Core.Bool.{cond}
use mathlib.Core.List.{List, [], ◌∷◌}
use Prim.Native.Nat.{ℕ, suc, ◌+◌, ◌%◌}
use native.Mathlib.Nat.{add-zero, zero-add, add_assoc, zero-mod}
use native.Mathlib.Numerals.{add-one}
use native.Mathlib.Omega.{arith}
use lib.Dec.{ltb, leb}
use lib.ListN.{length, length-append}
use borrow.Author.Tests.{ltb-true, ltb-false, le-leb, lt-leb}
use Rattle.document.specs.Plan.{Plan}
use Rattle.document.specs.Run.{Run, start_index, place_after, full_after, set_taken, ran_tick}
use Rattle.document.specs.Sets.{sets_taken}
use Rattle.recorder_history.specs.History.{PlanFits, Event, Recording, begun, stepped, after, taken_at, taken, memories_left}
use Rattle.recorder_history.specs.History.Event.{tick, others, stop}
use Rattle.recorder_history.specs.Trace.{index_after}
use Rattle.document.proofs.Cases.{split}
use Rattle.recorder_history.proofs.Places.{place_next, full_next}
use Rattle.recorder_history.proofs.Ticks.{by_case, stopped_run, stopped_taken, waits_run, waits_taken, takes_run, takes_taken}
use Rattle.recorder_history.proofs.Sets.{taken_of_left}

module _ (p : Plan) where
  -- after so many sets
  record Counted (r : Run) (n : ℕ) : Type 0 where
    place : r.place ≡ n % p.samples
    full : r.full ≡ leb p.samples n

  module _ (f : PlanFits p) where
    counted_set : (r : Run) (m : List ℕ) (n : ℕ) → Counted r n → Counted (set_taken p r m) (suc n)
    counted_set r m n c =
        record {
          place = ap (place_after p.samples) c.place ∙ place_next n p.samples f.samples;
          full = (λ i. full_after p.samples (c.place i) (c.full i)) ∙ full_next n p.samples;
        }

    counted_tick : (r : Run) (m : List ℕ) (n : ℕ) → Counted r n → Counted (ran_tick p r m) (n + length (taken_at p (record { run = r; memory = m }) tick))
    counted_tick r m n c =
        by_case r
        (λ e. rw (stopped_run p r m e, stopped_taken p r m e, add-zero n) c)
        (λ e z. rw (waits_run p r m e z, waits_taken p r m e z, add-zero n) (record { place = c.place; full = c.full }))
        (λ e z. rw (takes_run p r m e z, takes_taken p r m e z, add-one n) (counted_set r m n c))

    counted_after : (es : List Event) (g : Recording) (n : ℕ) → Counted g.run n → Counted (after p g es).run (n + length (taken p g es))
    counted_after [] g n c = rw (add-zero n) c
    counted_after (tick ∷ es) g n c =
        let later = taken p (stepped p g tick) es in
        rw (length-append (taken_at p g tick) later, ← add_assoc n (length (taken_at p g tick)) (length later))
        (counted_after es (stepped p g tick) (n + length (taken_at p g tick)) (counted_tick g.run g.memory n c))
    counted_after (others m ∷ es) g n c = counted_after es (stepped p g (others m)) n c
    counted_after (stop ∷ es) g n c = counted_after es (stepped p g stop) n (record { place = c.place; full = c.full })

    index_of : (r : Run) (n : ℕ) → Counted r n → start_index r ≡ index_after p.samples n
    index_of r n c =
        (λ i. cond (c.full i) (c.place i) 0)
        ∙ split (ltb n p.samples)
        (λ t. rw (t, lt-leb p.samples n (ltb-true n p.samples t)))
        (λ u. rw (u, le-leb p.samples n (ltb-false n p.samples u)))

    pub start_index_lem : (m : List ℕ) (es : List Event)
        → start_index (after p (begun m) es).run ≡ index_after p.samples (length (sets_taken p (memories_left m es)))
    start_index_lem m es =
        let none : Counted (begun m).run 0 =
        record { place = sym (zero-mod p.samples); full = sym (lt-leb p.samples 0 (omega (arith, f.samples))) } in
        index_of (after p (begun m) es).run (0 + length (taken p (begun m) es)) (counted_after es (begun m) 0 none)
        ∙ ap (index_after p.samples) (zero-add (length (taken p (begun m) es)) ∙ ap length (taken_of_left p f m es))
