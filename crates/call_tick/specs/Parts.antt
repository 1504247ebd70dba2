-- A set that is due, and a tick that nothing refuses: what each finds, and what it leaves.
use Rattle.std.specs.Prelude.{◌≡◌, true, List, ℕ, ◌≤◌, length}
use Rattle.std.proofs.lemmas.List.Edits.{sets}
use Rattle.document.specs.Areas.{memory_end}
use Rattle.document.specs.Stores.{stored}
use Rattle.document.specs.Run.{place_begins, set_of, set_taken}
use Rattle.document.specs.Recorder.{ticked_memory}
use Rattle.recorder_plans.specs.State.{plan_of}
use Rattle.recorder_plans.specs.Bounds.{plan_sound}
use Rattle.recorder_runs.specs.declared.run.Run.{Run}
use Rattle.recorder_runs.specs.State.{run_of, run_kept}
use Rattle.recorder_runs.specs.Bounds.{run_sound}
use Rattle.recorder_state.specs.State.{recorder_of}
use Rattle.state_block.specs.Places.{state_length}
use Rattle.state_block.specs.Layout.{decoded, encoded, decoded_plan, decoded_recorder}
use Rattle.call_tick.specs.Promises.{ticked_target}

-- ---- a set that is due

pub record Due (block : List ℕ) (run : Run) (memory : List ℕ) : Type 0 where
  pub long : state_length ≤ length block
  pub plan_sound_lem : plan_sound (decoded_plan block) ≡ true
  pub run_sound_lem : run_sound (decoded_plan block) run ≡ true
  pub runs : run.running ≡ 1
  pub memory_whole : length memory ≡ memory_end

pub record Took (block : List ℕ) (run : Run) (memory : List ℕ) (next : Run) (left : List ℕ) : Type 0 where
  pub run_after : next ≡ run_kept (set_taken (plan_of (decoded_plan block)) (run_of run) memory)
  pub memory_left : left ≡ stored memory (place_begins (plan_of (decoded_plan block)) run.place) (set_of (plan_of (decoded_plan block)) memory)

-- ---- a tick

pub record Ticked (block memory after left : List ℕ) : Type 0 where
  pub state : after ≡ sets block 0 (encoded (ticked_target (decoded block) memory))
  pub memory_left : left ≡ ticked_memory (recorder_of (decoded_recorder block)) memory
