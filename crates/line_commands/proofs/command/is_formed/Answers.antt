-- The start byte, then the command's entry in the table of lengths.
use mathlib.Core.Path.{sym, ◌∙◌}
use borrow.Author.Tests.{eq-eqb}
use Rattle.document.specs.Message.{well_formed}
use Rattle.line_commands.proofs.Forms.{formed_told, formed_fixed}
use Rattle.line_commands.proofs.command.is_formed.Goals as goal

pub returns-then-command-eq-PLUS : goal.returns-then-command-eq-PLUS
unfolding well_formed
returns-then-command-eq-PLUS c = simp (eq-eqb _ _ c.if-command-eq-PLUS.true)

pub returns-in-None : goal.returns-in-None
returns-in-None c =
    formed_told c.args.command c.args.body.now c.if-command-eq-PLUS.false (sym c.in-None.is ∙ c.data_length.ensures)

pub returns-in-Some : goal.returns-in-Some
returns-in-Some c =
    formed_fixed c.args.command c.args.body.now c.if-command-eq-PLUS.false c.in-Some.n c.from.result
    (sym c.in-Some.is ∙ c.data_length.ensures) c.from.ensures
