-- The recorder says its status.
use mathlib.Core.Path.{ap, ◌∙◌}
use Rattle.recorder_state.specs.declared.state.Recorder.{Recorder}
use Rattle.recorder_state.specs.State.{recorder_of}
use Rattle.recorder_state.specs.Calls.{status_status}
use Rattle.state_parts.specs.State.{gate_of}
use Rattle.state_block.specs.Layout.{decoded_instruments}
use Rattle.serve_recorder.specs.Operates.{status_alone}
use Rattle.serve_recorder.proofs.Statuses.{recorder_asked}
use Rattle.serve_recorder.proofs.recording.status.Goals as goal

pub returns : goal.returns
returns c =
    let block = c.args.state.now in
    λ memory s body.
    ap status_alone (c.status.ensures ∙ ap (λ (q : Recorder). status_status (recorder_of q)) c.recorder_in.ensures)
    ∙ recorder_asked (gate_of (decoded_instruments block) memory) s body
