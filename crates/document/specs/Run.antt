-- The recorder between two setups: start, stop, tick, start index.
use Rattle.std.specs.Prelude.{Bool, true, false, cond, ◌||◌, List, ℕ, ◌+◌, ◌-◌, ◌*◌, eqb, ltb}
use Rattle.document.specs.Areas.{buffer_begin}
use Rattle.document.specs.Stores.{stored}
use Rattle.document.specs.Variables.{set_size, values_of}
use Rattle.document.specs.Plan.{Plan, Trigger}
use Rattle.document.specs.Trigger.{trigger_value, fires, is_beyond}

-- how far the trigger has come
pub data Watch : Type 0 where
  -- no set is taken yet
  unprimed : Watch
  -- the value at the previous set
  previous : ℕ → Watch
  -- the trigger has come, and so many further sets are to be taken
  triggered : ℕ → Watch

-- what changes while it runs
pub record Run : Type 0 where
  pub running : Bool
  -- ticks that pass before the next set
  pub wait : ℕ
  -- the place that would be written next
  pub place : ℕ
  -- 'samples' sets are taken
  pub full : Bool
  pub watch : Watch

-- "After a start the first tick takes a set"
abbrev pub started : Run
started = record { running = true; wait = 0; place = 0; full = false; watch = unprimed }

-- a stop leaves all else as it is
abbrev pub stopped : Run → Run
stopped r = record { running = false; wait = r.wait; place = r.place; full = r.full; watch = r.watch }

-- "A recorder prepared and not started since .. counts as having taken no set" (2026-06): what a start and a stop with no tick
-- between leave
abbrev pub prepared : Run
prepared = stopped started

-- "The start index is 0 until 'samples' sets are taken, then the place that would be written next."
abbrev pub start_index : Run → ℕ
start_index r = cond r.full r.place 0

-- ---- a set

-- "Place p begins at byte 12,288 + p × set size"
abbrev pub place_begins : Plan → ℕ → ℕ
place_begins p place = buffer_begin + place * set_size p.variables

-- "bytes copied in the order of the definitions"
abbrev pub set_of : Plan → List ℕ → List ℕ
set_of p memory = values_of memory p.variables

-- "Set k since the start goes to place k modulo 'samples', k counted from 0"
abbrev pub place_after : ℕ → ℕ → ℕ
place_after samples place = cond (eqb (place + 1) samples) 0 (place + 1)

abbrev pub full_after : ℕ → ℕ → Bool → Bool
full_after samples place full = full || eqb (place + 1) samples

-- "Then, if no trigger has come, the trigger variable is compared."; 2026-02: the first set for itself, and "Later sets keep
-- 01's rule."
abbrev pub comes : Trigger → Watch → ℕ → Bool
comes t unprimed value = is_beyond t value
comes t (previous before) value = fires t before value
comes t (triggered left) value = false

-- "At a trigger, the post-trigger number of further sets is taken"
abbrev pub looked_at : Plan → Bool → ℕ → Watch
looked_at p come value = cond come (triggered p.post_trigger) (previous value)

abbrev pub watched : Plan → Watch → ℕ → Watch
watched p unprimed value = looked_at p (comes p.trigger unprimed value) value
watched p (previous before) value = looked_at p (comes p.trigger (previous before) value) value
watched p (triggered left) value = triggered (left - 1)

-- "the recorder stops with the last. With 0 it stops at that tick."
abbrev pub goes_on : Watch → Bool
goes_on unprimed = true
goes_on (previous value) = true
goes_on (triggered left) = ltb 0 left

abbrev pub set_taken : Plan → Run → List ℕ → Run
set_taken p r memory =
    record {
      running = goes_on (watched p r.watch (trigger_value p.trigger memory));
      wait = p.divider;
      place = place_after p.samples r.place;
      full = full_after p.samples r.place r.full;
      watch = watched p r.watch (trigger_value p.trigger memory);
    }

-- ---- a tick

abbrev pub waited : Run → Run
waited r = record { running = r.running; wait = r.wait - 1; place = r.place; full = r.full; watch = r.watch }

-- "A stopped recorder does nothing at it. After a start the first tick takes a set, then every (time divider + 1)th."
unfoldable pub ran_tick : Plan → Run → List ℕ → Run
ran_tick p r memory = cond r.running (cond (eqb r.wait 0) (set_taken p r memory) (waited r)) r

-- "A tick changes only that place."
unfoldable pub memory_after_tick : Plan → Run → List ℕ → List ℕ
memory_after_tick p r memory =
    cond r.running (cond (eqb r.wait 0) (stored memory (place_begins p r.place) (set_of p memory)) memory) memory
