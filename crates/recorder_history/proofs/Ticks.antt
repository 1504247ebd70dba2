-- What a tick does, case by case, and that "A tick changes only that place."
use mathlib.Core.Path.{◌≡◌, refl, sym, ap, ◌∙◌}
use mathlib.Core.Bool.{Bool, true, false, cond}
use mathlib.Core.List.{List, [], ◌∷◌}
use Prim.Native.Nat.{ℕ, ◌+◌, ◌<◌, ◌≤◌}
use native.Mathlib.Omega.{arith}
use lib.Dec.{eqb}
use lib.ListN.{length, take, drop}
use lib.Seq.{sets, length-sets}
use borrow.Author.Tests.{eq-eqb, ne_eqb, eqb-true, eqb-false}
use Rattle.document.specs.Areas.{buffer_begin, memory_end}
use Rattle.document.specs.Variables.{set_size}
use Rattle.document.specs.Plan.{Plan}
use Rattle.document.specs.Run.{Run, place_begins, set_of, set_taken, waited, ran_tick, memory_after_tick}
use Rattle.recorder_history.specs.History.{PlanFits, takes_next, taken_at}
use Rattle.recorder_history.specs.History.Event.{tick}
use Rattle.document.proofs.Cases.{split, neither}
use Rattle.memory_ranges.proofs.Stored.{take_sets, drop_sets}
use Rattle.recorder_history.proofs.Places.{place_room}
use Rattle.recorder_history.proofs.Sources.{set_length}

-- by the case that a tick finds: stopped, waiting, a set due
pub by_case : {P : Type 0} (r : Run) → (r.running ≡ false → P) → (r.running ≡ true → 0 < r.wait → P)
    → (r.running ≡ true → r.wait ≡ 0 → P) → P
by_case r stands waits takes =
    split r.running
    (λ t. split (eqb r.wait 0)
    (λ z. takes t (eqb-true r.wait 0 z))
    (λ n. waits t (omega (arith, eqb-false r.wait 0 n))))
    stands

module _ (p : Plan) (r : Run) (m : List ℕ) where
  -- what is picked by the two tests of a tick
  picked : {A : Type 0} (takes waits stands : A) (running due : Bool) → r.running ≡ running → eqb r.wait 0 ≡ due
      → cond r.running (cond (eqb r.wait 0) takes waits) stands ≡ cond running (cond due takes waits) stands
  picked takes waits stands running due e d =
      ap (λ (b : Bool). cond b (cond (eqb r.wait 0) takes waits) stands) e
      ∙ ap (λ (b : Bool). cond running (cond b takes waits) stands) d

  waiting : 0 < r.wait → eqb r.wait 0 ≡ false
  waiting h = ne_eqb r.wait 0 (λ z. omega arith)

  pub stopped_run : r.running ≡ false → ran_tick p r m ≡ r
  unfolding ran_tick
  stopped_run e = picked (set_taken p r m) (waited r) r false (eqb r.wait 0) e refl

  pub stopped_memory : r.running ≡ false → memory_after_tick p r m ≡ m
  unfolding memory_after_tick
  stopped_memory e = picked (sets m (place_begins p r.place) (set_of p m)) m m false (eqb r.wait 0) e refl

  pub stopped_taken : r.running ≡ false → taken_at p (record { run = r; memory = m }) tick ≡ []
  stopped_taken e = rw e

  pub waits_run : r.running ≡ true → 0 < r.wait → ran_tick p r m ≡ waited r
  unfolding ran_tick
  waits_run e h = picked (set_taken p r m) (waited r) r true false e (waiting h)

  pub waits_memory : r.running ≡ true → 0 < r.wait → memory_after_tick p r m ≡ m
  unfolding memory_after_tick
  waits_memory e h = picked (sets m (place_begins p r.place) (set_of p m)) m m true false e (waiting h)

  pub waits_taken : r.running ≡ true → 0 < r.wait → taken_at p (record { run = r; memory = m }) tick ≡ []
  waits_taken e h = rw (e, waiting h)

  pub takes_run : r.running ≡ true → r.wait ≡ 0 → ran_tick p r m ≡ set_taken p r m
  unfolding ran_tick
  takes_run e h = picked (set_taken p r m) (waited r) r true true e (eq-eqb r.wait 0 h)

  pub takes_memory : r.running ≡ true → r.wait ≡ 0 → memory_after_tick p r m ≡ sets m (place_begins p r.place) (set_of p m)
  unfolding memory_after_tick
  takes_memory e h = picked (sets m (place_begins p r.place) (set_of p m)) m m true true e (eq-eqb r.wait 0 h)

  pub takes_taken : r.running ≡ true → r.wait ≡ 0 → taken_at p (record { run = r; memory = m }) tick ≡ set_of p m ∷ []
  takes_taken e h = rw (e, eq-eqb r.wait 0 h)

  -- a tick that takes no set leaves every byte
  pub nothing_taken : takes_next (record { run = r; memory = m }) ≡ false → memory_after_tick p r m ≡ m
  nothing_taken none =
      by_case r
      stopped_memory
      waits_memory
      (λ e h. neither (sym none ∙ rw (e, eq-eqb r.wait 0 h)))

  -- the memory keeps its length
  pub tick_length : length (memory_after_tick p r m) ≡ length m
  tick_length =
      by_case r
      (λ e. ap length (stopped_memory e))
      (λ e h. ap length (waits_memory e h))
      (λ e h. ap length (takes_memory e h) ∙ length-sets m (place_begins p r.place) (set_of p m))

  -- all before its place stays
  pub tick_before : take (place_begins p r.place) (memory_after_tick p r m) ≡ take (place_begins p r.place) m
  tick_before =
      let a = place_begins p r.place in
      by_case r
      (λ e. ap (take a) (stopped_memory e))
      (λ e h. ap (take a) (waits_memory e h))
      (λ e h. ap (take a) (takes_memory e h) ∙ take_sets (set_of p m) m a a (omega arith))

  -- all behind its place stays
  pub tick_behind : PlanFits p → length m ≡ memory_end
      → drop (place_begins p r.place + set_size p.variables) (memory_after_tick p r m)
      ≡ drop (place_begins p r.place + set_size p.variables) m
  tick_behind f l =
      let a = place_begins p r.place in
      let b = place_begins p r.place + set_size p.variables in
      by_case r
      (λ e. ap (drop b) (stopped_memory e))
      (λ e h. ap (drop b) (waits_memory e h))
      (λ e h. ap (drop b) (takes_memory e h) ∙ drop_sets (set_of p m) m a b (omega (arith, set_length p f m l)))

  -- its place lies within the buffer: at or above byte 12,288 and below byte 16,384
  pub place_in_buffer : PlanFits p → r.place < p.samples
      → (buffer_begin ≤ place_begins p r.place) × (place_begins p r.place + set_size p.variables ≤ memory_end)
  place_in_buffer f h =
      (omega arith, omega (arith, place_room r.place p.samples (set_size p.variables) h, f.room))
