-- What a tick leaves of a recorder.
use Rattle.std.specs.Prelude.{cond, List, ℕ, eqb}
use Rattle.document.specs.Run.{ran_tick}
use Rattle.recorder_plans.specs.State.{plan_of}
use Rattle.recorder_runs.specs.State.{run_of}
use Rattle.recorder_state.specs.declared.state.Recorder.{Recorder as RecorderState}
use Rattle.recorder_state.specs.State.{with_run}

-- only the run changes, and only of a recorder that is set up
abbrev pub ticked_state : RecorderState → List ℕ → RecorderState
ticked_state r memory =
    cond (eqb r.ready 0) r (with_run r (ran_tick (plan_of r.plan) (run_of r.run) memory))
