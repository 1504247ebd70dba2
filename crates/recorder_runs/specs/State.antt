-- How the run's struct holds the document's run.
use Rattle.std.specs.Prelude.{Bool, cond, ℕ, eqb}
use Rattle.document.specs.Run.{Watch, Run, goes_on}
use Rattle.document.specs.Run.Watch.{unprimed, previous, triggered}
use Rattle.recorder_runs.specs.declared.run.Run.{Run as RunState}

-- a flag is 0 or 1
abbrev pub is_set : ℕ → Bool
is_set flag = eqb flag 1

abbrev pub flag_of : Bool → ℕ
flag_of b = cond b 1 0

-- ---- what the struct means

-- 0 unprimed, 1 with the value at the previous set, 2 triggered with the sets that are left
abbrev pub watch_of : ℕ → ℕ → Watch
watch_of watch value = cond (eqb watch 0) unprimed (cond (eqb watch 1) (previous value) (triggered value))

abbrev pub run_of : RunState → Run
run_of r =
    record {
      running = is_set r.running;
      wait = r.wait;
      place = r.place;
      full = is_set r.full;
      watch = watch_of r.watch r.value;
    }

-- ---- how a run is kept in the struct

abbrev pub watch_number : Watch → ℕ
watch_number unprimed = 0
watch_number (previous value) = 1
watch_number (triggered left) = 2

abbrev pub watch_value : Watch → ℕ
watch_value unprimed = 0
watch_value (previous value) = value
watch_value (triggered left) = left

abbrev pub run_kept : Run → RunState
run_kept r =
    record {
      running = flag_of r.running;
      full = flag_of r.full;
      watch = watch_number r.watch;
      wait = r.wait;
      place = r.place;
      value = watch_value r.watch;
    }

-- ---- what changes one part names the others once

abbrev pub with_wait : RunState → ℕ → RunState
with_wait r wait = record { running = r.running; full = r.full; watch = r.watch; wait = wait; place = r.place; value = r.value }

-- where the ring goes on
abbrev pub with_place : RunState → ℕ → ℕ → RunState
with_place r full place = record { running = r.running; full = full; watch = r.watch; wait = r.wait; place = place; value = r.value }

-- the watch for the trigger, and whether the run goes on
abbrev pub with_watch : RunState → ℕ → ℕ → ℕ → RunState
with_watch r running watch value = record { running = running; full = r.full; watch = watch; wait = r.wait; place = r.place; value = value }

-- a watch alone says whether the run goes on
abbrev pub watching : RunState → Watch → RunState
watching r w = with_watch r (flag_of (goes_on w)) (watch_number w) (watch_value w)

-- a stop changes only the flag
abbrev pub halted_run : RunState → RunState
halted_run r = with_watch r 0 r.watch r.value
