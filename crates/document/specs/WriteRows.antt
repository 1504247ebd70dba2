-- Rows for the commands that write: 0xE3, 0xE4, 0xF0, 0xE5, 0xF1, 0x02, 0x05, 0x03 and 0x06. What was written is read.
use Rattle.std.specs.Prelude.{List, [], ◌∷◌}
use Rattle.document.specs.Rows.{Row, asks, puts}

unfoldable pub write_rows : List Row
write_rows =
    -- "0xE3 carries a fourth byte that is ignored."
    (asks "E3 1000 05 77" "00" ∷ asks "D2 0F00" "00 00 05 00 00" ∷ [])
    ∷ (asks "E4 1000 0102" "00" ∷ asks "D2 0F00" "00 00 0102 00" ∷ asks "F0 1200 0A0B0C0D" "00" ∷ asks "01 03 08 0F00" "00 00 0102 0A0B0C0D 00" ∷ [])
    -- the variables end with byte 8,191; "Writing the first bytes of a range that leaves its area" is a mistake
    ∷ (asks "E4 FE1F 0102" "00" ∷ asks "E4 FF1F 0A0B" "89" ∷ asks "D2 FE1F" "00 0102 0000" ∷ [])
    ∷ (asks "F0 FC1F 01020304" "00" ∷ asks "F0 FD1F 0A0B0C0D" "89" ∷ asks "01 03 05 FC1F" "00 01020304 00" ∷ [])
    -- neither calibration nor buffer, nor beyond
    ∷ (asks "E3 FF2F 05 00" "89" ∷ asks "E3 0030 05 00" "89" ∷ asks "E3 0040 05 00" "89" ∷ asks "D1 FF2F" "00 0000" ∷ [])
    -- "A bit set in the mask takes the value's bit; every other bit stays."
    ∷ (puts 16 "5A C3" ∷ asks "E5 1000 F0 3C" "00" ∷ asks "D1 1000" "00 72C3" ∷ asks "E5 1000 FF 00" "00" ∷ asks "E5 1100 A5 FF" "00" ∷ asks "D1 1000" "00 72A5" ∷ [])
    ∷ (puts 16 "5A C3 77" ∷ asks "F1 1000 F00F 3C0F" "00" ∷ asks "D2 1000" "00 72CF 77 00" ∷ asks "F1 1000 0180 FFFF" "00" ∷ asks "D1 1000" "00 0180" ∷ [])
    ∷ (asks "E5 FF1F FF 81" "00" ∷ asks "E5 0020 FF 81" "89" ∷ asks "F1 FF1F 0000 FFFF" "89" ∷ asks "D1 FF1F" "00 8100" ∷ [])
    -- "size, address, data: write"
    ∷ (asks "02 06 03 1000 A1A2A3" "00" ∷ asks "01 03 05 0F00" "00 00 A1A2A3 00" ∷ asks "02 05 02 FE1F A1A2" "00" ∷ asks "02 05 02 FF1F B1B2" "89" ∷ asks "D2 FE1F" "00 A1A2 0000" ∷ [])
    ∷ (asks "02 05 03 1000 A1A2" "85" ∷ asks "02 07 03 1000 A1A2A3A4" "85" ∷ asks "02 00" "85" ∷ asks "02 03 00 1000" "86" ∷ asks "D2 1000" "00 00000000" ∷ [])
    ∷ (asks "05 08 03 10000000 A1A2A3" "00" ∷ asks "01 03 05 0F00" "00 00 A1A2A3 00" ∷ asks "05 07 02 FF1F0000 B1B2" "89" ∷ asks "05 06 01 10000100 B1" "89" ∷ [])
    ∷ (asks "05 05 02 1000 A1A2" "85" ∷ asks "05 07 03 10000000 A1A2" "85" ∷ asks "05 05 00 10000000" "86" ∷ asks "D2 1000" "00 00000000" ∷ [])
    -- "size, address, data, then as many mask bytes"
    ∷ (puts 16 "FF 00 77" ∷ asks "03 07 02 1000 A55A 0FF0" "00" ∷ asks "D2 1000" "00 F550 77 00" ∷ asks "03 05 01 0020 A5 FF" "89" ∷ asks "03 07 02 FF1F A5A5 FFFF" "89" ∷ asks "D1 FF1F" "00 0000" ∷ [])
    ∷ (asks "03 05 02 1000 A55A" "85" ∷ asks "03 06 02 1000 A55A 0F" "85" ∷ asks "03 08 02 1000 A55A 0FF0 00" "85" ∷ asks "03 03 00 1000" "86" ∷ [])
    ∷ (puts 16 "FF 00 77" ∷ asks "06 09 02 10000000 A55A 0FF0" "00" ∷ asks "D2 1000" "00 F550 77 00" ∷ asks "06 07 01 00200000 A5 FF" "89" ∷ asks "06 07 02 1000 A55A 0FF0" "85" ∷ asks "06 05 00 10000000" "86" ∷ [])
    ∷ []
