-- Each is a case of the definition.
use mathlib.Core.Path.{refl}
use borrow.Author.Tests.{lt-ltb, le-ltb}
use native.Mathlib.Omega.{arith}
use Rattle.state_block.specs.Layout.{decoded_tables}
use Rattle.serve_tables.proofs.is_listed.Goals as goal

pub returns-then-index-from : goal.returns-then-index-from
unfolding decoded_tables
returns-then-index-from c = rw (c.from-then-index-from.ensures, lt-ltb c.args.index (decoded_tables c.args.state.now).count (omega (arith, c.if-index-from.true, c.from.ensures))) refl

pub returns-else-index-from : goal.returns-else-index-from
unfolding decoded_tables
returns-else-index-from c =
    rw (le-ltb c.args.index c.from.result c.if-index-from.false, le-ltb c.args.index (decoded_tables c.args.state.now).count (omega (arith, c.if-index-from.false, c.from.ensures))) refl
