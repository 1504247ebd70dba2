-- The sign field picks the reading.
use mathlib.Core.Path.{◌∙◌}
use mir.Syntax.{w64}
use mir.Facts.{to_z-of_z}
use borrow.Author.Tests.{ne_eqb}
use Rattle.recorder_triggers.proofs.signed.signed_value.Goals as goal

pub returns : goal.returns
returns c = rw (ne_eqb _ _ c.if-sign-eq1.false) (to_z-of_z {w = w64} (record { sfits = c.from-2.type_inv }) ∙ c.from-2.ensures)
