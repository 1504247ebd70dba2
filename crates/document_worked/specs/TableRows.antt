-- Rows for the tables (2026-03) over a whole memory: lists, and names read over the port.
use Rattle.std.specs.Prelude.{List, [], ◌∷◌, ◌++◌, ℕ, replicate}
use Rattle.document.specs.Hex.{hex}
use Rattle.document.specs.Rows.{Row, asks}
use Rattle.document.specs.TableRows.{entry, types}

-- ---- lists: every entry is good here

abbrev pub wide : List ℕ
wide = types ++ replicate 12300 2

-- ---- over the port: "coil" at 16, its type at 32, its entry at 8,192, and no zero at memory's end

abbrev pub named : List ℕ
named = replicate 16 1 ++ hex "636F696C 00" ++ replicate 11 1 ++ hex "E1 00" ++ replicate 8158 1 ++ entry "2000" "0B00" ++ replicate 8182 1 ++ hex "00 41"

unfoldable pub name_rows : List Row
name_rows =
    -- the steps of source document 000: the table, its entry, the name's length, the name
    (asks "01 03 08 0020" "00 1000 2000 1200 0B00" ∷ asks "D4 1000" "00 0400" ∷ asks "01 03 04 1000" "00 636F696C" ∷ [])
    -- an empty string, and parts of one, with addresses of 2 bytes and of 4
    ∷ (asks "D4 1400" "00 0000" ∷ asks "E6 10000000" "00 0400" ∷ asks "E6 11000000" "00 0300" ∷ [])
    -- an empty one near the end, and one without a zero
    ∷ (asks "D4 FE3F" "00 0000" ∷ asks "D4 FF3F" "86" ∷ asks "E6 FF3F0000" "86" ∷ [])
    -- an address outside
    ∷ (asks "D4 0040" "89" ∷ asks "D4 FFFF" "89" ∷ asks "E6 00400000" "89" ∷ asks "E6 10000100" "89" ∷ asks "E6 000000FF" "89" ∷ [])
    ∷ []
