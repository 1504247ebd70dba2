-- What the memory holds for each registered table and each of its entries: what a tool is to find (2026-03).
use Rattle.std.specs.Prelude.{Bool, true, cond, ◌&&◌, List, [], ◌∷◌, map, ℕ, zero, suc, ◌+◌, ◌/◌, ltb}
use Rattle.document.specs.Areas.{memory_end, bytes_at}
use Rattle.document.specs.Values.{number}
use Rattle.document.specs.Strings.{string_length, string_ends}
use Rattle.document.specs.Tables.{Table, entry_size, is_place_good}

-- a string that begins in memory and ends there, without its zero; of any other, nothing
abbrev pub string_at : List ℕ → ℕ → List ℕ
string_at memory address =
    cond (ltb address memory_end && string_ends memory address) (bytes_at memory address (string_length memory address)) []

-- what an entry says: its name, and of what stands behind that name the type, the address and the info
pub record Named : Type 0 where
  pub name : List ℕ
  pub type : List ℕ
  pub address : ℕ
  pub info : ℕ

-- "each entry consists of four parameters", 2 bytes each: the addresses of two strings, and two numbers
abbrev pub named_at : List ℕ → ℕ → Named
named_at memory entry =
    record {
      name = string_at memory (number (bytes_at memory entry 2));
      type = string_at memory (number (bytes_at memory (entry + 2) 2));
      address = number (bytes_at memory (entry + 4) 2);
      info = number (bytes_at memory (entry + 6) 2);
    }

-- of n entries from an address on
abbrev pub names_at : List ℕ → ℕ → ℕ → List Named
names_at memory entry zero = []
names_at memory entry (suc n) = named_at memory entry ∷ names_at memory (entry + entry_size) n

abbrev pub names_of : List ℕ → Table → List Named
names_of memory t = names_at memory t.address (t.size / entry_size)

-- table by table
unfoldable pub names_in : List ℕ → List Table → List (List Named)
names_in memory ts = map (names_of memory) ts

-- what registering checked of the tables alone, whatever the memory holds since: "inside the calibration area and one or more
-- whole entries"
abbrev pub are_places_good : List Table → Bool
are_places_good [] = true
are_places_good (t ∷ ts) = is_place_good t && are_places_good ts
