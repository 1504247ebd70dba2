-- Without a setup it does not run; else its flag says.
use mathlib.Core.Path.{sym, ap, ◌∙◌}
use mathlib.Core.Bool.{not}
use borrow.Author.Tests.{eq-eqb}
use Rattle.document.specs.Recorder.{is_running}
use Rattle.recorder_state.proofs.Readings.{at_absent, at_planned}
use Rattle.state_block.specs.Layout.{decoded_recorder}
use Rattle.state_block.proofs.reading.recorder_runs.Goals as goal

pub returns-then-block-ne0 : goal.returns-then-block-ne0
unfolding decoded_recorder
returns-then-block-ne0 c = sym (at_planned is_running (decoded_recorder c.args.block.now) c.if-block-ne0.true)

pub returns-else-block-ne0 : goal.returns-else-block-ne0
unfolding decoded_recorder
returns-else-block-ne0 c = ap not (eq-eqb _ 0 c.if-block-ne0.false) ∙ sym (at_absent is_running (decoded_recorder c.args.block.now) c.if-block-ne0.false)
