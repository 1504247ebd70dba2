-- The rows: every entry that a command has, once, and a number for each.
use Rattle.std.specs.Prelude.{cond, List, [], ◌∷◌, ◌++◌, map, ℕ, suc, eqb, get_or}
use Rattle.document.specs.Services.{Listed, commands}
use Rattle.codes_rows.specs.Rule.{entry_of}

-- one command of each row: the served ones in the document's order, then of those not served the first of each fixed length
abbrev command_of_each : List ℕ
command_of_each = map (λ (l : Listed). l.command) commands ++ (0xC7 ∷ 0xD3 ∷ 0xE7 ∷ 0xF2 ∷ [])

abbrev pub rows : List ℕ
rows = map entry_of command_of_each

-- behind the list, the row of those not served whose length is told
abbrev pub last_row : ℕ
last_row = entry_of 0x00

abbrev pub row_at : ℕ → ℕ
row_at n = get_or rows n last_row

-- where an entry stands in the list, or behind it
abbrev place_in : List ℕ → ℕ → ℕ
place_in [] e = 0
place_in (r ∷ rs) e = cond (eqb e r) 0 (suc (place_in rs e))

abbrev pub row_number : ℕ → ℕ
row_number c = place_in rows (entry_of c)
