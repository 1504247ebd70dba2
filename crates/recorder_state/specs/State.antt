-- How the recorder's struct holds the document's recorder.
use Rattle.std.specs.Prelude.{cond, eqb}
use Rattle.document.specs.Run.{Run, prepared}
use Rattle.document.specs.Recorder.{Recorder}
use Rattle.document.specs.Recorder.Recorder.{absent, planned}
use Rattle.recorder_plans.specs.State.{plan_of, no_plan}
use Rattle.recorder_runs.specs.State.{run_of, run_kept}
use Rattle.recorder_state.specs.declared.state.Recorder.{Recorder as RecorderState}

abbrev pub recorder_of : RecorderState → Recorder
recorder_of r = cond (eqb r.ready 0) absent (planned (plan_of r.plan) (run_of r.run))

-- a run alone changes: the plan stays as the setup left it
abbrev pub with_run : RecorderState → Run → RecorderState
with_run r run = record { ready = r.ready; plan = r.plan; run = run_kept run }

-- reset: "no accepted recorder setup"
abbrev pub no_recorder : RecorderState
no_recorder = record { ready = 0; plan = no_plan; run = run_kept prepared }
