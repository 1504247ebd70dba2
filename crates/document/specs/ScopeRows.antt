-- Rows for the scope: 0x08, 0x0A and 0xC5.
use Rattle.std.specs.Prelude.{List, [], ◌∷◌, replicate}
use Rattle.document.specs.Hex.{hex}
use Rattle.document.specs.Rows.{Row, asks, sends, puts}

unfoldable pub scope_rows : List Row
scope_rows =
    -- "the variables' bytes in that order", as they are when they are read
    (asks "C5" "88" ∷ asks "08 07 02 02 2000 01 1000" "00" ∷ puts 16 "11" ∷ puts 32 "22 33" ∷ asks "C5" "00 2233 11" ∷ puts 32 "44" ∷ asks "C5" "00 4433 11" ∷ [])
    ∷ (asks "0A 0B 02 02 20000000 01 10000000" "00" ∷ puts 16 "11" ∷ puts 32 "22 33" ∷ asks "C5" "00 2233 11" ∷ [])
    -- a refused setup leaves the former one, an accepted one takes its place
    ∷ (puts 16 "11 22" ∷ asks "08 04 01 01 1000" "00" ∷ asks "08 04 01 01 0040" "89" ∷ asks "C5" "00 11" ∷ asks "08 04 01 01 1100" "00" ∷ asks "C5" "00 22" ∷ [])
    ∷ (asks "08 04 01 01 0040" "89" ∷ asks "C5" "88" ∷ [])
    -- "a data length that is not the one its fields give (or too short to hold them)"
    ∷ (asks "08 00" "85" ∷ asks "08 03 01 01 10" "85" ∷ asks "08 05 01 01 1000 00" "85" ∷ asks "08 04 02 01 1000" "85" ∷ asks "0A 04 01 01 1000" "85" ∷ [])
    -- "a size of 0; a variable count of 0 or above 8"
    ∷ (asks "08 04 01 00 1000" "86" ∷ asks "08 07 02 01 1000 00 1000" "86" ∷ asks "08 01 00" "86" ∷ asks "0A 01 00" "86" ∷ [])
    ∷ (asks "08 1C 09 011000 011000 011000 011000 011000 011000 011000 011000 011000" "86" ∷ asks "C5" "88" ∷ [])
    ∷ (puts 16 "11" ∷ asks "08 19 08 011000 011000 011000 011000 011000 011000 011000 011000" "00" ∷ asks "C5" "00 1111111111111111" ∷ [])
    -- "ranges are checked at setup": all that may be read
    ∷ (asks "08 04 01 02 FF3F" "89" ∷ asks "08 07 02 01 1000 01 0040" "89" ∷ asks "08 07 02 01 0040 01 1000" "89" ∷ asks "0A 06 01 01 10000100" "89" ∷ [])
    -- "Any size from 1 to 255 may be set up", but at most 64 bytes are read
    ∷ (asks "08 04 01 FF 1000" "00" ∷ asks "C5" "84" ∷ asks "08 07 02 20 1000 21 1000" "00" ∷ asks "C5" "84" ∷ asks "08 07 02 20 1000 20 1000" "00" ∷ sends (hex "C5") (replicate 65 0) ∷ [])
    -- a write keeps the scope
    ∷ (asks "08 04 01 01 1000" "00" ∷ asks "E3 1000 05 00" "00" ∷ asks "C5" "00 05" ∷ [])
    ∷ []
