-- The bounds of a recorder's numbers: a state outside them is refused, and none that is handed out ever is outside.
use Rattle.std.specs.Prelude.{Bool, true, cond, ◌&&◌, eqb}
use Rattle.recorder_plans.specs.Bounds.{plan_sound}
use Rattle.recorder_runs.specs.Bounds.{run_sound}
use Rattle.recorder_state.specs.declared.state.Recorder.{Recorder as RecorderState}

-- while nothing is set up, nothing else is looked at
abbrev pub sound : RecorderState → Bool
sound r = cond (eqb r.ready 0) true (eqb r.ready 1 && plan_sound r.plan && run_sound r.plan r.run)
