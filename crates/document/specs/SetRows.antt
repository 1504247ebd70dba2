-- Rows for what a setup fixes, and for the sets of a run said without the recorder's state.
use Rattle.std.specs.Prelude.{true, false, List, [], ◌∷◌, ◌++◌, map, ℕ, replicate}
use Prim.Native.String.{String}
use Rattle.document.specs.Hex.{hex}
use Rattle.document.specs.Plan.{Plan, no_trigger, plan_in}
use Rattle.document.specs.Recorder.{buffer_answer}
use Rattle.document.specs.Recorder.Recorder.{planned}
use Rattle.document.specs.Run.{set_of}
use Rattle.document.specs.Run.Watch.{unprimed}
use Rattle.document.specs.Sets.{sets_taken, read_round, last_of}

-- ---- every field at its full width: "samples 2, post-trigger 2, time divider 2", "threshold 4"

abbrev pub plain_plan : Plan
plain_plan =
    record {
      samples = 0x0201;
      post_trigger = 0x0403;
      divider = 0x0605;
      trigger = record { mode = 2; address = 0x0807; size = 4; sign = 1; threshold = 0x0D0C0B0A };
      variables = record { size = 0x0E; address = 0x100F } ∷ record { size = 0x11; address = 0x1312 } ∷ [];
    }

abbrev pub ex_plan : Plan
ex_plan =
    record {
      samples = 0x0201;
      post_trigger = 0x0403;
      divider = 0x0605;
      trigger = record { mode = 1; address = 0x0A090807; size = 2; sign = 0; threshold = 0x0C0B };
      variables = record { size = 0x0E; address = 0x1211100F } ∷ record { size = 0x13; address = 0x17161514 } ∷ [];
    }

-- "With mode 0 the trigger's fields are not looked at."
abbrev pub plain_plan_no_trigger : Plan
plain_plan_no_trigger =
    record { samples = 1; post_trigger = 2; divider = 3; trigger = no_trigger; variables = record { size = 1; address = 16 } ∷ [] }

abbrev pub plans_in : List Plan
plans_in =
    plan_in false (hex "02 0102 0304 0506 0708 04 01 0A0B0C0D 02 0E 0F10 11 1213")
    ∷ plan_in true (hex "01 0102 0304 0506 0708090A 02 00 0B0C0D0E 02 0E 0F101112 13 14151617")
    ∷ plan_in false (hex "00 0100 0200 0300 0708 04 01 0A0B0C0D 01 01 1000")
    ∷ []

-- a start index of two bytes, behind an address of 2 bytes or 4
abbrev pub buffer_answers : List (List ℕ)
buffer_answers = buffer_answer 2 full ∷ buffer_answer 4 full ∷ []
  where
    full : Rattle.document.specs.Recorder.Recorder
    full = planned plain_plan (record { running = false; wait = 0; place = 0x0102; full = true; watch = unprimed })

-- ---- a run of a memory of one byte, which is recorded and rises to 0x80: at each tick its value

pub record History : Type 0 where
  pub post_trigger : ℕ
  pub divider : ℕ
  pub ticks : List ℕ
  pub sets : List ℕ

abbrev pub history : ℕ → ℕ → String → String → History
history post_trigger divider ticks sets = record { post_trigger = post_trigger; divider = divider; ticks = hex ticks; sets = hex sets }

unfoldable pub histories : List History
histories =
    history 0 0 "10 20 90 91" "10 20 90"
    ∷ history 1 0 "10 20 90 91 92" "10 20 90 91"
    ∷ history 2 0 "10 90 10 90 10" "10 90 10 90"
    ∷ history 3 0 "10 90 91" "10 90 91"
    ∷ history 0 0 "90 91 10" "90"
    ∷ history 2 0 "80 10 11 90" "80 10 11"
    ∷ history 0 0 "7F 10 80 91" "7F 10 80"
    ∷ history 0 1 "10 11 90 91 92" "10 90"
    ∷ history 0 1 "10 90 11 10 92" "10 11 92"
    ∷ history 1 2 "10 11 12 90 91 92 93 94 95 96" "10 90 93"
    ∷ []

abbrev pub plan_of : History → Plan
plan_of h =
    record {
      samples = 2;
      post_trigger = h.post_trigger;
      divider = h.divider;
      trigger = record { mode = 1; address = 0; size = 1; sign = 0; threshold = 0x80 };
      variables = record { size = 1; address = 0 } ∷ [];
    }

abbrev single : ℕ → List ℕ
single b = b ∷ []

abbrev pub taken : History → List (List ℕ)
taken h = sets_taken (plan_of h) (map single h.ticks)

abbrev pub written : History → List (List ℕ)
written h = map single h.sets

-- "reading round from it": from place 1 of 2
abbrev pub rounds : List (List ℕ)
rounds = read_round (plan_of (history 0 0 "" "")) (replicate 12288 0 ++ hex "10 20 30") 1 3

-- "the last sets of that history"
abbrev pub lasts : List (List ℕ)
lasts = last_of 2 (map single (hex "10 20 30"))

-- "bytes copied in the order of the definitions": one of two bytes, and one before it
abbrev pub copied : List (List ℕ)
copied = set_of two_and_one (hex "10 20 30") ∷ []
  where
    two_and_one : Plan
    two_and_one =
        record {
          samples = 1;
          post_trigger = 0;
          divider = 0;
          trigger = no_trigger;
          variables = record { size = 2; address = 1 } ∷ record { size = 1; address = 0 } ∷ [];
        }
