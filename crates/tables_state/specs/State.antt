-- How the block holds the registered tables, what that stands for, and its bound.
use Rattle.std.specs.Prelude.{Bool, List, ◌++◌, ℕ, ◌*◌, ◌/◌, leb, length, replicate, take, drop}
use Rattle.document.specs.Tables.{Table, most_tables, pair_size, tables_in}

-- "up to 16 tables", an address and a size for each
abbrev pub list_length : ℕ
list_length = most_tables * pair_size

-- how many tables there are, and 64 bytes that begin with their list
pub record Registered : Type 0 where
  pub count : ℕ
  pub list : List ℕ

abbrev pub tables_of : Registered → List Table
tables_of r = tables_in (take (r.count * pair_size) r.list)

-- reset
abbrev pub no_tables : Registered
no_tables = record { count = 0; list = replicate list_length 0 }

-- "as registered and not checked again": the count is the only bound
unfoldable pub sound : Registered → Bool
sound r = leb r.count most_tables

-- a list that was registered, and zeros behind it
abbrev pub registered_list : List ℕ → Registered
registered_list list = record { count = length list / pair_size; list = list ++ drop (length list) (replicate list_length 0) }
