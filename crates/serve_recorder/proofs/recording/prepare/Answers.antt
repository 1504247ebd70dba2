-- What nothing refuses is stored.
use mathlib.Core.Path.{sym}
use Rattle.recorder_state.proofs.Answers.{taken-body}
use Rattle.state_block.specs.Layout.{data_to}
use Rattle.serve_recorder.proofs.recording.prepare.Goals as goal

pub store_prepared-requires : goal.store_prepared-requires
store_prepared-requires c =
    let a = c.args in
    (c.requires.0, c.requires.1, c.requires.2, taken-body c.recorder_runs.result a.ex (data_to a.state.now a.to) (sym c.in_ok-prepare_status.ensures))
