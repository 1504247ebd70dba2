-- The recorder prepared: which refusal applies, and the state after it; and prepared and started, the two in a row.
use Rattle.std.specs.Prelude.{Bool, cond, List, ℕ, eqb}
use Rattle.document.specs.Numbers.{done, busy}
use Rattle.document.specs.Run.{prepared}
use Rattle.document.specs.Recorder.{is_running}
use Rattle.recorder_state.specs.declared.state.Recorder.{Recorder as RecorderState}
use Rattle.recorder_setups.specs.Setup.{body_status, plan_read}
use Rattle.recorder_runs.specs.State.{run_kept}
use Rattle.recorder_state.specs.State.{recorder_of}
use Rattle.recorder_state.specs.Calls.{started_state}

-- "recorder setup .. while the recorder runs", before all that its data part is answered with: of the recorder it asks nothing else
unfoldable pub prepare_status : Bool → Bool → List ℕ → ℕ
prepare_status running ex body = cond running busy (body_status ex body)

abbrev pub prepared_state : Bool → List ℕ → RecorderState
prepared_state ex body = record { ready = 1; plan = plan_read ex body; run = run_kept prepared }

-- "the two in a row" (2026-06); refused, "The memory, scope and recorder keep their values."
unfoldable pub both_next : RecorderState → Bool → List ℕ → RecorderState
both_next r ex body = cond (eqb (prepare_status (is_running (recorder_of r)) ex body) done) (started_state (prepared_state ex body)) r
