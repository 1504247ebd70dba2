-- The length's column, read off the entry.
use borrow.Author.Tests.{ne_eqb}
use Rattle.codes_table.proofs.reading.length_in.Goals as goal

pub returns-then-n : goal.returns-then-n
returns-then-n c = rw c.if-n.true

pub returns : goal.returns
returns c = rw (ne_eqb _ _ c.if-n.false)
