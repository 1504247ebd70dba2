-- The recorder's history: "So long as nobody else writes the buffer, reading round from it as many places as sets were taken
-- since the start, at most 'samples', gives the last sets of that history, oldest first."
use mathlib.Core.Path.{◌≡◌, ap, ◌∙◌}
use mathlib.Core.Bool.{true}
use mathlib.Core.List.{List, []}
use Prim.Native.Nat.{ℕ, min, ◌%◌}
use lib.ListN.{length}
use Rattle.document.specs.Areas.{memory_end}
use Rattle.document.specs.Stores.{stored}
use Rattle.document.specs.Plan.{Plan}
use Rattle.document.specs.Run.{start_index, place_begins, set_of, memory_after_tick}
use Rattle.document.specs.Sets.{sets_taken, read_round, last_of}
use Rattle.recorder_history.specs.History.{PlanFits, Event, begun, after, taken, memories_left, memories_found, AllLeaveBuffer}
use Rattle.recorder_history.proofs.RingHolds.{RingHolds, held_start, held_after, held_read}
use Rattle.recorder_history.proofs.Sets.{taken_of_left, taken_of_found}
use Rattle.recorder_history.proofs.Ticks.{takes_memory}

module _ (p : Plan) (m : List ℕ) (es : List Event) (f : PlanFits p) (l : length m ≡ memory_end) (q : AllLeaveBuffer p (begun m) es) where
  all_held : RingHolds p (after p (begun m) es).run.place (after p (begun m) es).run.full (after p (begun m) es).memory (taken p (begun m) es)
  all_held = held_after p f es (begun m) [] (held_start p f m l) q

  read_taken : read_round p (after p (begun m) es).memory (start_index (after p (begun m) es).run) (min (length (taken p (begun m) es)) p.samples)
      ≡ last_of p.samples (taken p (begun m) es)
  read_taken =
      held_read p f (after p (begun m) es).memory (taken p (begun m) es) (after p (begun m) es).run.place (after p (begun m) es).run.full
      all_held

  -- the buffer holds the last sets that the memories left by others give, whatever happens since a start
  pub history : read_round p (after p (begun m) es).memory (start_index (after p (begun m) es).run) (min (length (sets_taken p (memories_left m es))) p.samples)
      ≡ last_of p.samples (sets_taken p (memories_left m es))
  history = rw (← taken_of_left p f m es) read_taken

  -- the same of the memories that the ticks find
  pub history_found : read_round p (after p (begun m) es).memory (start_index (after p (begun m) es).run) (min (length (sets_taken p (memories_found p (begun m) es))) p.samples)
      ≡ last_of p.samples (sets_taken p (memories_found p (begun m) es))
  history_found = rw (← taken_of_found p f m es) read_taken

  -- "Set k since the start goes to place k modulo 'samples', k counted from 0": so many sets are taken, and the next goes there
  pub next_place : (after p (begun m) es).run.place ≡ length (sets_taken p (memories_left m es)) % p.samples
  next_place = rw (← taken_of_left p f m es) all_held.counted

  -- "bytes copied in the order of the definitions"
  pub next_set : (after p (begun m) es).run.running ≡ true → (after p (begun m) es).run.wait ≡ 0
      → memory_after_tick p (after p (begun m) es).run (after p (begun m) es).memory
      ≡ stored (after p (begun m) es).memory (place_begins p (length (sets_taken p (memories_left m es)) % p.samples)) (set_of p (after p (begun m) es).memory)
  next_set t z =
      takes_memory p (after p (begun m) es).run (after p (begun m) es).memory t z
      ∙ ap
      (λ (i : ℕ). stored (after p (begun m) es).memory (place_begins p i) (set_of p (after p (begun m) es).memory))
      next_place
