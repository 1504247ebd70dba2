-- The table is its rule at every command, by one computation.
use mathlib.Core.Path.{ap, ◌∙◌}
use Prim.Native.Nat.{ℕ}
use native.Mathlib.Omega.{arith}
use lib.ListN.{get_or}
use Rattle.document.specs.Kinds.{kind_of}
use Rattle.document.specs.Services.{service_of}
use Rattle.codes_rows.specs.Rows.{row_number}
use Rattle.codes_rows.specs.Rule.{entry_of}
use Rattle.codes_table.proofs.Entries.{entry_at, values_from}
use Rattle.codes_table.proofs.table.row_number.Goals as goal

pub returns : goal.returns
unfolding entry_of kind_of service_of
returns c =
    ap (λ (k : ℕ). get_or (values_from row_number 0 256) k 0) c.from.ensures ∙ entry_at row_number 0 256 c.args.command (omega arith)
