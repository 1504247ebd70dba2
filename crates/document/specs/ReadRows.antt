-- Rows for the commands that describe and read: 0xC0, 0xC8, 0xD0 to 0xD2, 0xE0 to 0xE2, 0x01 and 0x04.
use Rattle.std.specs.Prelude.{List, [], ◌∷◌, ◌++◌, replicate}
use Rattle.document.specs.Hex.{hex}
use Rattle.document.specs.Rows.{Row, asks, sends, puts}

unfoldable pub read_rows : List Row
read_rows =
    -- "then "LOG GATE" and 17 zeros (35 bytes)"; "0xC8: the first six."
    (sends (hex "C0") (hex "00 03 00 01 01 00 40 00 10 01 40 4C 4F 47 20 47 41 54 45" ++ replicate 17 0) ∷ asks "C8" "00 03 00 01 01 00 40" ∷ [])
    -- "1, 2, 4 bytes at an address", lowest first
    ∷ (puts 16 "11 22 33 44 55" ∷ asks "D0 1000" "00 11" ∷ asks "D1 1000" "00 1122" ∷ asks "D2 1000" "00 11223344" ∷ [])
    -- "in EX commands 4"
    ∷ (puts 16 "11 22 33 44 55" ∷ asks "E0 10000000" "00 11" ∷ asks "E1 10000000" "00 1122" ∷ asks "E2 10000000" "00 11223344" ∷ [])
    -- all four bytes of an address count
    ∷ (asks "E0 10000100" "89" ∷ asks "E1 10000001" "89" ∷ asks "E2 10400000" "89" ∷ asks "04 05 01 10000100" "89" ∷ [])
    -- the last byte is 16,383
    ∷ (puts 16383 "44" ∷ asks "D2 FC3F" "00 000000 44" ∷ [])
    ∷ (asks "D0 0040" "89" ∷ asks "D1 FF3F" "89" ∷ asks "D2 FD3F" "89" ∷ asks "D0 FFFF" "89" ∷ [])
    ∷ (asks "E0 00400000" "89" ∷ asks "E1 FF3F0000" "89" ∷ asks "E2 FD3F0000" "89" ∷ [])
    -- "size, address: read", across the ends of areas
    ∷ (puts 8191 "A1 A2" ∷ asks "01 03 02 FF1F" "00 A1A2" ∷ [])
    ∷ (puts 12287 "B1 B2" ∷ asks "01 03 02 FF2F" "00 B1B2" ∷ [])
    ∷ (puts 16 "11 22 33 44 55" ∷ asks "04 05 03 11000000" "00 223344" ∷ asks "04 05 02 FF3F0000" "89" ∷ [])
    -- 64 bytes are read up to the memory's end, 65 nowhere
    ∷ (sends (hex "01 03 40 C03F") (replicate 65 0) ∷ asks "01 03 40 C13F" "89" ∷ [])
    ∷ (asks "01 03 41 1000" "84" ∷ asks "04 05 41 10000000" "84" ∷ asks "04 05 FF 10000000" "84" ∷ [])
    -- "a data length that is not the one its fields give"; "a size of 0"
    ∷ (asks "01 02 01 10" "85" ∷ asks "01 04 01 1000 00" "85" ∷ asks "01 00" "85" ∷ asks "01 03 00 1000" "86" ∷ [])
    ∷ (asks "04 03 01 1000" "85" ∷ asks "04 04 01 100000" "85" ∷ asks "04 06 01 10000000 00" "85" ∷ asks "04 05 00 10000000" "86" ∷ [])
    -- no tables are registered, and a string ends with memory's last byte (2026-03)
    ∷ (asks "11 02 0000" "00 0000 0000 0000" ∷ asks "D4 FF3F" "00 0000" ∷ asks "E6 FF3F0000" "00 0000" ∷ [])
    -- and a string is counted without its zero
    ∷ (puts 16 "41 42 43" ∷ asks "D4 1000" "00 0300" ∷ asks "E6 11000000" "00 0200" ∷ [])
    ∷ []
