-- Runs by computation: two places, divider 1, rising through 5, one further set, and the plan fits, so the theorems speak of it; and a
-- coil at 0x8000 from the start on.
use mathlib.Core.Path.{◌≡◌, refl}
use mathlib.Core.Bool.{true, false}
use mathlib.Core.List.{List, [], ◌∷◌}
use Prim.Native.Nat.{ℕ}
use native.Mathlib.Omega.{arith}
use lib.ListN.{replicate, set}
use Rattle.document.specs.Plan.{Plan}
use Rattle.document.specs.Trigger.{fires, is_beyond}
use Rattle.document.specs.Run.{start_index, ran_tick, memory_after_tick}
use Rattle.document.specs.Sets.{sets_taken, read_round}
use Rattle.recorder_history.specs.History.{PlanFits, Event, begun, after, AllLeaveBuffer, memories_left}
use Rattle.recorder_history.specs.History.Event.{tick, others}

abbrev plan : Plan
plan =
    record {
      samples = 2;
      post_trigger = 1;
      divider = 1;
      trigger = record { mode = 1; address = 0; size = 1; sign = 0; threshold = 5 };
      variables = record { address = 0; size = 1 } ∷ record { address = 8; size = 1 } ∷ [];
    }

abbrev zeros : List ℕ
zeros = replicate 16384 0

-- byte 0 is 3 at the first set, 4 at the second and 7 from then on; the buffer as the recorder left it
abbrev events : List Event
events =
    others (set (set zeros 0 3) 8 1)
    ∷ tick ∷ tick
    ∷ others (set (set (set (set zeros 0 4) 8 2) 12288 3) 12289 1)
    ∷ tick ∷ tick
    ∷ others (set (set (set (set (set (set zeros 0 7) 8 9) 12288 3) 12289 1) 12290 4) 12291 2)
    ∷ tick ∷ tick ∷ tick ∷ tick ∷ tick
    ∷ []

pub plan_fits : PlanFits plan
plan_fits = record { samples = omega arith; room = omega arith; variables = refl; trigger = refl }

pub sets_are : sets_taken plan (memories_left zeros events) ≡ (3 ∷ 1 ∷ []) ∷ (4 ∷ 2 ∷ []) ∷ (7 ∷ 9 ∷ []) ∷ (7 ∷ 9 ∷ []) ∷ []
unfolding sets_taken fires is_beyond
sets_are = refl

pub ring_reads : read_round plan (after plan (begun zeros) events).memory (start_index (after plan (begun zeros) events).run) 2
    ≡ (7 ∷ 9 ∷ []) ∷ (7 ∷ 9 ∷ []) ∷ []
unfolding ran_tick memory_after_tick fires is_beyond
ring_reads = refl

pub stops_then : (after plan (begun zeros) events).run.running ≡ false
unfolding ran_tick memory_after_tick fires is_beyond
stops_then = refl

-- the history's premise is met: each of these leaves the buffer
pub buffer_left : AllLeaveBuffer plan (begun zeros) events
unfolding ran_tick memory_after_tick fires is_beyond
buffer_left = ((refl, refl), (tt, (tt, ((refl, refl), (tt, (tt, ((refl, refl), (tt, (tt, (tt, (tt, (tt, tt))))))))))))

-- ---- a rising trigger of 2 bytes with threshold 0x7000, and 0x8000 under it at every tick: "fires with sign 0, not with sign 1", at
-- the first set (2026-02)

abbrev word : ℕ → Plan
word sign =
    record {
      samples = 4;
      post_trigger = 1;
      divider = 0;
      trigger = record { mode = 1; address = 0; size = 2; sign = sign; threshold = 0x7000 };
      variables = record { address = 0; size = 2 } ∷ [];
    }

-- no more than these two bytes are looked at
abbrev saturated : List ℕ
saturated = 0x00 ∷ 0x80 ∷ []

abbrev three_ticks : List Event
three_ticks = tick ∷ tick ∷ tick ∷ []

-- the trigger's own set and one further
pub unsigned_sets : sets_taken (word 0) (memories_left saturated three_ticks) ≡ saturated ∷ saturated ∷ []
unfolding sets_taken fires is_beyond
unsigned_sets = refl

pub unsigned_stops : (after (word 0) (begun saturated) (tick ∷ tick ∷ [])).run.running ≡ false
unfolding ran_tick memory_after_tick fires is_beyond
unsigned_stops = refl

pub signed_sets : sets_taken (word 1) (memories_left saturated three_ticks) ≡ saturated ∷ saturated ∷ saturated ∷ []
unfolding sets_taken fires is_beyond
signed_sets = refl

pub signed_runs : (after (word 1) (begun saturated) three_ticks).run.running ≡ true
unfolding ran_tick memory_after_tick fires is_beyond
signed_runs = refl
