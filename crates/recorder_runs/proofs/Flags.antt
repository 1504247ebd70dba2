-- Flags, watches and runs: kept in the struct and read back, they are what they were.
use mathlib.Core.Path.{◌≡◌, refl}
use mathlib.Core.Bool.{Bool, true, false}
use Rattle.document.specs.Run.{Watch, Run}
use Rattle.document.specs.Run.Watch.{unprimed, previous, triggered}
use Rattle.recorder_runs.specs.State.{is_set, flag_of, watch_of, watch_number, watch_value, run_of, run_kept}

pub flag_read : (b : Bool) → is_set (flag_of b) ≡ b
flag_read true = refl
flag_read false = refl

pub watch_read : (w : Watch) → watch_of (watch_number w) (watch_value w) ≡ w
watch_read unprimed = refl
watch_read (previous value) = refl
watch_read (triggered left) = refl

pub run_read : (r : Run) → run_of (run_kept r) ≡ r
run_read r = λ i. record { running = flag_read r.running i; wait = r.wait; place = r.place; full = flag_read r.full i; watch = watch_read r.watch i }
