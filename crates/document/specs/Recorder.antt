-- The recorder as the commands and the gate's tick see it.
use Rattle.std.specs.Prelude.{Bool, true, false, cond, List, [], ◌++◌, ℕ}
use Rattle.document.specs.Areas.{buffer_begin}
use Rattle.document.specs.Values.{little_endian}
use Rattle.document.specs.Plan.{Plan, plan_in}
use Rattle.document.specs.Run.{Run, started, stopped, prepared, start_index, ran_tick, memory_after_tick}

pub data Recorder : Type 0 where
  absent : Recorder
  planned : Plan → Run → Recorder

-- "no accepted recorder setup since reset"
abbrev pub recorder_absent : Recorder → Bool
recorder_absent absent = true
recorder_absent (planned p r) = false

abbrev pub is_running : Recorder → Bool
is_running absent = false
is_running (planned p r) = r.running

-- "Split the recorder setup in two, preparing and starting." (2026-06): nothing of the former setup is left
abbrev pub recorder_prepared : Bool → List ℕ → Recorder
recorder_prepared ex body = planned (plan_in ex body) prepared

-- "0xC1: running answers 0x01, else starts": nothing of the run before is left
abbrev pub recorder_started : Recorder → Recorder
recorder_started absent = absent
recorder_started (planned p r) = planned p (cond r.running r started)

-- "0xC2: stopped answers 0x02, else stops"
abbrev pub recorder_halted : Recorder → Recorder
recorder_halted absent = absent
recorder_halted (planned p r) = planned p (stopped r)

-- "buffer address 12,288 and start index (2 bytes)", the address of n bytes
abbrev pub buffer_answer : ℕ → Recorder → List ℕ
buffer_answer n absent = []
buffer_answer n (planned p r) = little_endian n buffer_begin ++ little_endian 2 (start_index r)

-- "The gate calls a tick."
abbrev pub ticked : Recorder → List ℕ → Recorder
ticked absent memory = absent
ticked (planned p r) memory = planned p (ran_tick p r memory)

abbrev pub ticked_memory : Recorder → List ℕ → List ℕ
ticked_memory absent memory = memory
ticked_memory (planned p r) memory = memory_after_tick p r memory
