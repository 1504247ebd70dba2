-- The state at reset is all zeros.
use mathlib.Core.Path.{ap, ◌∙◌}
use lib.Seq.{sets}
use Rattle.state_block.proofs.Parts.{fresh_zeros}
use Rattle.state_block.proofs.writing.reset.Goals as goal

pub returns : goal.returns
returns c =
    let args = c.args in
    c.clear.ensures ∙ ap (sets args.block.now 0) fresh_zeros
