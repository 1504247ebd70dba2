-- The row of a command's number is its entry.
use mathlib.Core.Path.{ap, ◌∙◌}
use native.Mathlib.Omega.{arith}
use Rattle.codes_rows.specs.Rows.{row_at}
use Rattle.codes_table.proofs.Commands.{row_at_lem}
use Rattle.codes_table.proofs.table.entry.Goals as goal

pub returns : goal.returns
returns c =
    let command = c.args.command in
    c.row.ensures ∙ ap row_at c.row_number.ensures ∙ row_at_lem command (omega arith)
