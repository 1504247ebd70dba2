-- Rows for the recorder's setup, 0x09 and 0x0B: mode, samples, post-trigger, time divider; trigger address, size, sign and
-- threshold; then count, and size and address each.
use Rattle.std.specs.Prelude.{List, [], ◌∷◌}
use Prim.Native.String.{String}
use Rattle.document.specs.Rows.{Row, asks}

-- "Accepted, it also starts."
abbrev accepted : String → Row
accepted setup = asks setup "00" ∷ asks "C3" "01" ∷ []

-- refused, it leaves nothing set up
abbrev refused : String → String → Row
refused status setup = asks setup status ∷ asks "C3" "88" ∷ []

unfoldable pub setup_rows : List Row
setup_rows =
    accepted "09 13 00 0400 0000 0000 0000 00 00 00000000 01 01 1000"
    ∷ accepted "0B 17 00 0400 0000 0000 00000000 00 00 00000000 01 01 10000000"
    -- "a data length that is not the one its fields give (or too short to hold them)"
    ∷ refused "85" "09 00"
    ∷ refused "85" "09 0F 00 0400 0000 0000 0000 00 00 00000000"
    ∷ refused "85" "09 12 00 0400 0000 0000 0000 00 00 00000000 01 01 10"
    ∷ refused "85" "09 14 00 0400 0000 0000 0000 00 00 00000000 01 01 1000 00"
    ∷ refused "85" "0B 13 00 0400 0000 0000 0000 00 00 00000000 01 01 1000"
    -- "a trigger mode above 2, or, with mode 1 or 2, a sign field above 1"
    ∷ refused "85" "09 13 03 0400 0000 0000 1000 01 00 00000000 01 01 1000"
    ∷ refused "85" "09 13 01 0400 0000 0000 1000 01 02 00000000 01 01 1000"
    ∷ refused "85" "09 13 02 0400 0000 0000 1000 01 02 00000000 01 01 1000"
    ∷ refused "85" "0B 17 01 0400 0000 0000 10000000 01 02 00000000 01 01 10000000"
    -- "a size of 0; a variable count of 0 or above 8; 0 samples"
    ∷ refused "86" "09 13 00 0400 0000 0000 0000 00 00 00000000 01 00 1000"
    ∷ refused "86" "09 10 00 0400 0000 0000 0000 00 00 00000000 00"
    ∷ refused "86" "09 2B 00 0400 0000 0000 0000 00 00 00000000 09 011000 011000 011000 011000 011000 011000 011000 011000 011000"
    ∷ accepted "09 28 00 0400 0000 0000 0000 00 00 00000000 08 011000 011000 011000 011000 011000 011000 011000 011000"
    ∷ refused "86" "09 13 00 0000 0000 0000 0000 00 00 00000000 01 01 1000"
    -- "samples times set size above 4,096": 4,097 of 1 byte are and 1,366 of 3 bytes, 4,096 and 1,365 are not
    ∷ refused "86" "09 13 00 0110 0000 0000 0000 00 00 00000000 01 01 1000"
    ∷ accepted "09 13 00 0010 0000 0000 0000 00 00 00000000 01 01 1000"
    ∷ refused "86" "09 16 00 5605 0000 0000 0000 00 00 00000000 02 01 1000 02 1000"
    ∷ accepted "09 16 00 5505 0000 0000 0000 00 00 00000000 02 01 1000 02 1000"
    -- "with mode 1 or 2, a trigger size other than 1, 2, 4"
    ∷ refused "86" "09 13 01 0400 0000 0000 1000 00 00 00000000 01 01 1000"
    ∷ refused "86" "09 13 01 0400 0000 0000 1000 03 00 00000000 01 01 1000"
    ∷ refused "86" "09 13 02 0400 0000 0000 1000 05 01 00000000 01 01 1000"
    ∷ refused "86" "0B 17 02 0400 0000 0000 10000000 08 01 00000000 01 01 10000000"
    ∷ accepted "09 13 02 0400 0000 0000 1000 04 01 00000000 01 01 1000"
    -- "With mode 0 the trigger's fields are not looked at.": address 65,535, size 7, sign 9
    ∷ accepted "09 13 00 0400 0000 0000 FFFF 07 09 FFFFFFFF 01 01 1000"
    -- "Recorded variables and trigger must end at or below 12,288."
    ∷ refused "89" "09 13 00 0400 0000 0000 0000 00 00 00000000 01 01 0030"
    ∷ refused "89" "09 13 00 0400 0000 0000 0000 00 00 00000000 01 02 FF2F"
    ∷ refused "89" "09 16 00 0400 0000 0000 0000 00 00 00000000 02 01 1000 01 0030"
    ∷ refused "89" "0B 17 00 0400 0000 0000 00000000 00 00 00000000 01 01 10000100"
    ∷ refused "89" "09 13 01 0400 0000 0000 0030 01 00 00000000 01 01 1000"
    ∷ refused "89" "09 13 02 0400 0000 0000 FF2F 02 00 00000000 01 01 1000"
    ∷ refused "89" "0B 17 01 0400 0000 0000 10000100 01 00 00000000 01 01 10000000"
    ∷ accepted "09 13 01 0400 0000 0000 FE2F 02 00 00000000 01 02 FE2F"
    -- "recorder setup or buffer query while the recorder runs"
    ∷ (asks "09 13 00 0400 0000 0000 0000 00 00 00000000 01 01 1000" "00" ∷ asks "09 13 00 0400 0000 0000 0000 00 00 00000000 01 01 1000" "87" ∷ asks "0B 17 00 0400 0000 0000 00000000 00 00 00000000 01 01 10000000" "87" ∷ asks "C4" "87" ∷ asks "C9" "87" ∷ [])
    ∷ []
