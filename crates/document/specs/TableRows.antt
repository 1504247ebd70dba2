-- Rows for the tables (2026-03): lists that are good and bad, and what a technician is told. Those that want a whole memory stand in
-- crates/document_worked.
use Rattle.std.specs.Prelude.{Bool, cond, List, [], ◌∷◌, ◌++◌, map, ℕ, zero, suc, ◌+◌, ◌*◌, eqb, replicate}
use Prim.Native.String.{String}
use Rattle.document.specs.Hex.{hex}
use Rattle.document.specs.Values.{little_endian}
use Rattle.document.specs.Answer.{answer_on_wire}
use Rattle.document.specs.Gate.{registered}
use Rattle.document.specs.Happenings.{from_reset}
use Rattle.document.specs.Numbers.{taken, list_refused}
use Rattle.document.specs.Tables.{base_size, is_entry_good, are_entries_good, tables_in, is_list_good, register_refusal}
use Rattle.document.specs.Rows.{Row, asks, after_steps}
use Rattle.document.specs.CallRows.{Line, line, below}

-- one entry: name 16, this type, address 18, this info
abbrev pub entry : String → String → List ℕ
entry type info = hex "1000" ++ hex type ++ hex "1200" ++ hex info

-- as registering would refuse it
abbrev pub refused : Bool → ℕ
refused isGood = cond isGood taken list_refused

-- ---- an entry, over as much of a memory as is looked at: the type of 2 bytes, and one that only begins with its code
abbrev pub types : List ℕ
types = hex "E1 00 E1 41 00"

abbrev entries : String → List String → List ℕ
entries type infos = map (λ (i : String). refused (is_entry_good types (entry type i))) infos

-- each base type, with a size
abbrev sized : (ℕ → ℕ) → List ℕ → List ℕ → List ℕ
sized off [] ss = []
sized off (c ∷ cs) [] = []
sized off (c ∷ cs) (s ∷ ss) =
    refused (is_entry_good (c ∷ 0 ∷ []) (hex "1000 0000 1200" ++ little_endian 2 (off s * 4 + 1))) ∷ sized off cs ss

-- "E0, F0 one byte; E1, F1, E5, F5 two; E2, F2, E6, F6, FA four; E3, F3, FB eight"
abbrev codes_written : List ℕ
codes_written = hex "E0F0 E1F1E5F5 E2F2E6F6FA E3F3FB"

abbrev sizes_written : List ℕ
sizes_written = hex "0101 02020202 0404040404 080808"

-- of these codes, each behind which a zero stands, those of a base type with their sizes
abbrev coded : List ℕ → List ℕ
coded [] = []
coded (c ∷ cs) = cond (eqb (base_size (c ∷ 0 ∷ []) 0) 0) (coded cs) (c ∷ base_size (c ∷ 0 ∷ []) 0 ∷ coded cs)

unfoldable pub entry_rows : List Line
entry_rows =
    -- "whose size differs from its base type's", whatever the two low bits of its info say
    line (entries "0000" ("0800" ∷ "0900" ∷ "0A00" ∷ "0B00" ∷ "0700" ∷ "0C00" ∷ "0200" ∷ "0801" ∷ "0880" ∷ [])) (hex "00 00 00 00 08 08 08 08 08")
    -- "other types have any size": a code with a character behind it, no code, an empty string, a code that memory ends behind
    ∷ line (entries "0200" ("FFFF" ∷ "0000" ∷ []) ++ entries "0300" ("0000" ∷ "0300" ∷ []) ++ entries "0400" ("0000" ∷ []) ++ (refused (is_entry_good (hex "E1") (entry "0000" "0000")) ∷ [])) (hex "00 00 00 00 00 00")
    -- 0xEC and 0xFF are no codes; of all bytes, those that are
    ∷ line (sized (λ (s : ℕ). s) (hex "EC EC FF FF") (hex "04 0C 04 0C")) (replicate 4 0)
    ∷ line (coded (below 256)) (hex "E001 E102 E204 E308 E502 E604 F001 F102 F204 F308 F502 F604 FA04 FB08")
    -- each by the type that its own address names
    ∷ line (map (λ (e : List ℕ). refused (is_entry_good (hex "E100 F200") e)) (entry "0000" "0800" ∷ entry "0200" "0800" ∷ entry "0200" "1000" ∷ [])) (hex "00 08 00")
    -- name and address are not looked at: both outside memory
    ∷ line (refused (is_entry_good types (hex "FFFF 0000 FFFF 0800")) ∷ []) (hex "00")
    -- "whose type address is outside memory"
    ∷ line (entries "0040" ("0B00" ∷ []) ++ entries "FF3F" ("0B00" ∷ []) ++ entries "FFFF" ("0B00" ∷ [])) (hex "08 00 08")
    -- each base type with its size, and with one more
    ∷ line (sized (λ (s : ℕ). s) codes_written sizes_written) (replicate 14 0)
    ∷ line (sized (λ (s : ℕ). s + 1) codes_written sizes_written) (replicate 14 8)
    -- every entry is looked at: a bad one behind a good one; the second of three, then none of them
    ∷ line (map (λ (n : ℕ). refused (are_entries_good (types ++ entry "0000" "0B00" ++ entry "0000" "1000") 5 n)) (hex "00 01 02")) (hex "00 00 08")
    ∷ line (map (λ (second : String). refused (are_entries_good (types ++ entry "0000" "0B00" ++ entry "0000" second ++ entry "0000" "0B00") 5 3)) ("1000" ∷ "0900" ∷ [])) (hex "08 00")
    ∷ []

-- ---- lists, over a memory in which every entry is good, so that the place alone decides

-- a list of n tables
abbrev many : ℕ → List ℕ
many zero = []
many (suc n) = hex "0020 0800" ++ many n

unfoldable pub list_rows : List ℕ → List Line
list_rows memory =
    -- none, 1 and 16 tables; "more than 16"
    line (map (λ (n : ℕ). refused (is_list_good memory (many n))) (hex "00 01 10 11")) (hex "00 00 00 08")
    -- half a pair, and parts of one
    ∷ line (lists ("0020" ∷ "00" ∷ "0020 08" ∷ "0020 0800 0020" ∷ [])) (hex "08 08 08 08")
    -- "inside the calibration area": before it, across its beginning, its first 8 bytes, its last 8, across its end by little and by much, behind it
    ∷ line (lists ("F81F 0800" ∷ "FF1F 0800" ∷ "0020 0800" ∷ "F82F 0800" ∷ "F92F 0800" ∷ "F82F 0801" ∷ "0030 0800" ∷ "F8FF 0800" ∷ [])) (hex "08 08 00 00 08 08 08 08")
    -- "one or more whole entries": 0, 4, 7, 9, 12 and 16 bytes; and at an odd address
    ∷ line (lists ("0020 0000" ∷ "0020 0400" ∷ "0020 0700" ∷ "0020 0900" ∷ "0020 0C00" ∷ "0020 1000" ∷ "0120 0800" ∷ [])) (hex "08 08 08 08 08 00 00")
    -- two may overlap; one bad table makes the list bad
    ∷ line (lists ("0020 1000 0820 0800" ∷ "0020 0800 0020 0700" ∷ [])) (hex "00 08")
    ∷ []
  where
    lists : List String → List ℕ
    lists ls = map (λ (l : String). refused (is_list_good memory (hex l))) ls

-- ---- a whole memory, with entries at 8,192: a good one, one of another type, a bad one and a good one

abbrev entered : List ℕ
entered = types ++ replicate 8187 0 ++ entry "0000" "0B00" ++ entry "0200" "0000" ++ entry "0000" "1000" ++ entry "0000" "0B00" ++ replicate 8160 0

unfoldable pub register_rows : List Line
register_rows =
    line (map (λ (l : String). register_refusal entered (hex l)) ("" ∷ "0020 1000" ∷ "0020 1800" ∷ "1020 1000" ∷ "1820 0800" ∷ "00" ∷ [])) (hex "00 00 08 08 00 08")
    -- "lowest number first"
    ∷ line (register_refusal [] (hex "00") ∷ []) (hex "02")
    ∷ []

-- ---- over the port, with three tables

abbrev pub tables_by_step : List ℕ → Row → List (List ℕ)
tables_by_step memory row =
    map answer_on_wire (after_steps (from_reset (registered (tables_in (hex "0020 0800 0820 1000 1820 0801")) memory)) row).answers

unfoldable pub table_rows : List Row
table_rows =
    -- "flags 2, size and address, 2 bytes each, or six zero bytes for an index beyond the last"
    (asks "11 02 0000" "00 0200 0800 0020" ∷ asks "11 02 0100" "00 0200 1000 0820" ∷ asks "11 02 0200" "00 0200 0801 1820" ∷ asks "11 02 0300" "00 0000 0000 0000" ∷ asks "11 02 0001" "00 0000 0000 0000" ∷ asks "11 02 FFFF" "00 0000 0000 0000" ∷ [])
    -- another data part than an index of 2 bytes
    ∷ (asks "11 00" "85" ∷ asks "11 01 00" "85" ∷ asks "11 03 000000" "85" ∷ [])
    ∷ []

-- a name of 300 bytes: the length's second byte
abbrev pub long_name : List ℕ
long_name = replicate 300 0x41 ++ hex "00"

unfoldable pub long_name_rows : List Row
long_name_rows = (asks "D4 0000" "00 2C01" ∷ asks "E6 02000000" "00 2A01" ∷ []) ∷ []
