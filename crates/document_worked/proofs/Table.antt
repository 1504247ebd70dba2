-- The whole table of the staples as one statement: cases 1 to 13 with what they leave, and the rows behind them by their answers.
use mathlib.Core.Path.{◌≡◌}
use mathlib.Core.List.{map}
use Rattle.document_worked.specs.Staples.{Case, shown}
use Rattle.document.specs.Rows.{said_by, step_by_step}
use Rattle.document.specs.RefusalPairs.{pair_rows, faulty_messages}
use Rattle.document.specs.EdgeRows.{Edge, edges, fires_at}
use Rattle.document.specs.LevelRows.{Level, levels, fires_first}
use Rattle.document.specs.KindRows.{kind_rows, kinds_from, kinds_in}
use Rattle.document_worked.proofs.Staples.{table, staples_hold}
use Rattle.document_worked.proofs.Rows.{given, said, rows_hold}
use Rattle.document.proofs.Rows.{edges_hold, levels_hold}
use Rattle.document.proofs.Pairs.{pairs_hold, kinds_hold}

pub table-holds :
    (map shown table ≡ map (λ (c : Case). c.shows) table)
    × (given ≡ said)
    × (map step_by_step (pair_rows faulty_messages) ≡ map said_by (pair_rows faulty_messages))
    × (map fires_at edges ≡ map (λ (e : Edge). e.fires) edges)
    × (map fires_first levels ≡ map (λ (l : Level). l.fires) levels)
    × (kinds_from 0 kind_rows ≡ kinds_in kind_rows)
table-holds = (staples_hold, rows_hold, pairs_hold, edges_hold, levels_hold, kinds_hold)
