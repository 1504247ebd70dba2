-- A shift that stays within 64 bits is a power of two.
use borrow.Author.Rules.{rules}
use Rattle.recorder_triggers.proofs.Halves.{shifted}
use Rattle.recorder_triggers.proofs.signed.half.Goals as goal

pub returns : goal.returns
returns c = shifted c.args.size (search rules)
