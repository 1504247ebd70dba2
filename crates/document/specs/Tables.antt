-- Request 2026-03, names instead of addresses: tables of entries, each with a name, a type, an address and a size, which the gate
-- registers at reset.
use Rattle.std.specs.Prelude.{Bool, true, cond, not, ◌&&◌, ◌||◌, List, [], ◌∷◌, ◌++◌, ℕ, zero, suc, ◌+◌, ◌*◌, ◌/◌, ◌%◌, length, replicate, eqb, ltb, leb}
use Rattle.document.specs.Numbers.{taken, memory_refused, list_refused}
use Rattle.document.specs.Areas.{variables_end, calibration_end, memory_end, bytes_at}
use Rattle.document.specs.Values.{number, little_endian}
use Rattle.document.specs.BaseTypes.{size_of_code}

pub record Table : Type 0 where
  pub address : ℕ
  pub size : ℕ

-- "The gate registers up to 16 tables"
abbrev pub most_tables : ℕ
most_tables = 16

-- "16-bit entries of 8 bytes": name, type, address and info, 2 bytes each
abbrev pub entry_size : ℕ
entry_size = 8

-- ---- an entry

abbrev pub type_of : List ℕ → ℕ
type_of entry = number (bytes_at entry 2 2)

-- "an entry's size is its info divided by 4"
abbrev pub size_of : List ℕ → ℕ
size_of entry = number (bytes_at entry 6 2) / 4

-- "a base type's string is such a code and a zero": its size, or 0 for another type
abbrev pub size_of_string : List ℕ → ℕ
size_of_string [] = 0
size_of_string (code ∷ []) = 0
size_of_string (code ∷ next ∷ rest) = cond (eqb next 0) (size_of_code code) 0

abbrev pub base_size : List ℕ → ℕ → ℕ
base_size memory address = size_of_string (bytes_at memory address 2)

-- not "an entry whose type address is outside memory or whose size differs from its base type's"; "other types have any size"
abbrev pub is_entry_good : List ℕ → List ℕ → Bool
is_entry_good memory entry =
    ltb (type_of entry) memory_end
    && (eqb (base_size memory (type_of entry)) 0 || eqb (size_of entry) (base_size memory (type_of entry)))

-- n entries from an address on
abbrev pub are_entries_good : List ℕ → ℕ → ℕ → Bool
are_entries_good memory address zero = true
are_entries_good memory address (suc n) =
    is_entry_good memory (bytes_at memory address entry_size) && are_entries_good memory (address + entry_size) n

-- ---- a table: "inside the calibration area and one or more whole entries"

abbrev pub is_place_good : Table → Bool
is_place_good t =
    leb variables_end t.address && leb (t.address + t.size) calibration_end && leb entry_size t.size
    && eqb (t.size % entry_size) 0

abbrev pub is_table_good : List ℕ → Table → Bool
is_table_good memory t = is_place_good t && are_entries_good memory t.address (t.size / entry_size)

-- ---- a list: an address and a size for each table, 2 bytes each, lowest first

abbrev pub pair_size : ℕ
pair_size = 4

abbrev pub tables_in : List ℕ → List Table
tables_in [] = []
tables_in (a ∷ []) = []
tables_in (a ∷ b ∷ []) = []
tables_in (a ∷ b ∷ c ∷ []) = []
tables_in (a ∷ b ∷ c ∷ d ∷ rest) =
    record { address = number (a ∷ b ∷ []); size = number (c ∷ d ∷ []) } ∷ tables_in rest

abbrev pub are_tables_good : List ℕ → List Table → Bool
are_tables_good memory [] = true
are_tables_good memory (t ∷ ts) = is_table_good memory t && are_tables_good memory ts

-- not "more than 16 tables", nor half a pair, nor "a table not as said"
unfoldable pub is_list_good : List ℕ → List ℕ → Bool
is_list_good memory list =
    leb (length list) (most_tables * pair_size) && eqb (length list % pair_size) 0 && are_tables_good memory (tables_in list)

-- "call number 8 for a bad list, nothing registered, after 7"
abbrev pub register_refusal : List ℕ → List ℕ → ℕ
register_refusal memory list =
    cond (not (eqb (length memory) memory_end)) memory_refused (cond (not (is_list_good memory list)) list_refused taken)

-- ---- what a technician is told

-- "0x11 answers flags 2, size and address, 2 bytes each, or six zero bytes for an index beyond the last"
abbrev pub table_data : Table → List ℕ
table_data t = little_endian 2 2 ++ little_endian 2 t.size ++ little_endian 2 t.address

abbrev pub table_answer : List Table → ℕ → List ℕ
table_answer [] index = replicate 6 0
table_answer (t ∷ ts) zero = table_data t
table_answer (t ∷ ts) (suc index) = table_answer ts index
