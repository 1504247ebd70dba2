-- The head is written, and the command's bytes stay.
use Rattle.state_block.proofs.Stored.{ended_stored}
use Rattle.application_block.proofs.report.Goals as goal

pub returns : goal.returns
returns c = ended_stored c.args.state.now c.requires (λ i. (c.items_fit i).fits) c.args.res
