-- What the entry of a command says is the rule's.
use mathlib.Core.Path.{ap, ◌∙◌}
use native.Mathlib.Omega.{arith}
use Rattle.codes_table.specs.Table.{length_in}
use Rattle.codes_table.proofs.Commands.{length_at}
use Rattle.codes_table.proofs.table.data_length.Goals as goal

pub returns : goal.returns
returns c =
    let command = c.args.command in
    c.length_in.ensures ∙ ap length_in c.entry.ensures ∙ length_at command (omega arith)
