-- By the phase.
use Rattle.application_state.proofs.Means.{collected_tested}
use Rattle.state_block.specs.Layout.{decoded_application}
use Rattle.application_block.proofs.is_collected.Goals as goal

pub returns : goal.returns
unfolding decoded_application
returns c = collected_tested (decoded_application c.args.state.now)
