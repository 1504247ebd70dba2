-- The range is tested against the end of the variables.
use Rattle.document.specs.Permission.{may_be_written}
use Rattle.memory_ranges.proofs.ranges.may_be_written.Goals as goal

pub returns : goal.returns
unfolding may_be_written
returns c g = c.within.ensures
