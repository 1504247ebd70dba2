-- What the entry of a command says is the rule's.
use mathlib.Core.Path.{ap, ◌∙◌}
use native.Mathlib.Omega.{arith}
use Rattle.codes_table.specs.Table.{service_in}
use Rattle.codes_table.proofs.Commands.{service_at}
use Rattle.codes_table.proofs.table.service_of.Goals as goal

pub returns : goal.returns
returns c =
    let command = c.args.command in
    c.service_in.ensures ∙ ap service_in c.entry.ensures ∙ service_at command (omega arith)
