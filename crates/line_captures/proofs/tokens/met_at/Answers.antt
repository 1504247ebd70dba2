-- Each is a case of the definition.
use mathlib.Core.Path.{refl}
use borrow.Author.Tests.{eq-eqb, ne_eqb, lt-ltb, le-ltb}
use Rattle.line_captures.specs.Tokens.{met_at}
use Rattle.line_captures.proofs.tokens.met_at.Goals as goal

pub returns-then-at-bytes : goal.returns-then-at-bytes
unfolding met_at
returns-then-at-bytes c = rw (le-ltb _ _ c.if-at-bytes.true) refl

pub returns-then-byte-ne-PLUS : goal.returns-then-byte-ne-PLUS
unfolding met_at
returns-then-byte-ne-PLUS c = rw (lt-ltb _ _ c.if-at-bytes.false, ne_eqb _ 0x2B c.if-byte-ne-PLUS.true) refl

pub returns-then-behind-bytes : goal.returns-then-behind-bytes
unfolding met_at
returns-then-behind-bytes c = rw (lt-ltb _ _ c.if-at-bytes.false, eq-eqb _ 0x2B c.if-byte-ne-PLUS.false, le-ltb _ _ c.if-behind-bytes.true) refl

pub returns-then-bytes-behind-ne-PLUS : goal.returns-then-bytes-behind-ne-PLUS
unfolding met_at
returns-then-bytes-behind-ne-PLUS c =
    rw (lt-ltb _ _ c.if-at-bytes.false, eq-eqb _ 0x2B c.if-byte-ne-PLUS.false, lt-ltb _ _ c.if-behind-bytes.false, ne_eqb _ 0x2B c.if-bytes-behind-ne-PLUS.true) refl

pub returns : goal.returns
unfolding met_at
returns c =
    rw (lt-ltb _ _ c.if-at-bytes.false, eq-eqb _ 0x2B c.if-byte-ne-PLUS.false, lt-ltb _ _ c.if-behind-bytes.false, eq-eqb _ 0x2B c.if-bytes-behind-ne-PLUS.false) refl
