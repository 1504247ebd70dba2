-- And, or and complement at this width are the masked store.
use borrow.Author.Rules.{rules}
use Rattle.memory_masks.proofs.Masks.{mixed_masked}
use Rattle.memory_masks.proofs.bits.U16Bits.mixed.Goals as goal

pub returns : goal.returns
returns c = let a = c.args in mixed_masked 16 a.self a.given a.mask (search rules) (search rules) (search rules)
