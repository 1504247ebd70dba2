-- Rows for the recorder's run without a trigger. Byte 16 is recorded, and the buffer is read from byte 12,288 on.
use Rattle.std.specs.Prelude.{List, [], ◌∷◌}
use Rattle.document.specs.Rows.{Row, Step, asks, ticks, puts, passes}

-- 2 places of a byte each; the time divider is 0 or 2
abbrev two_places : Step
two_places = asks "09 13 00 0200 0000 0000 0000 00 00 00000000 01 01 1000" "00"

abbrev every_third : Step
every_third = asks "09 13 00 0200 0000 0200 0000 00 00 00000000 01 01 1000" "00"

unfoldable pub recorder_rows : List Row
recorder_rows =
    -- "with no accepted recorder setup since reset"; a tick then does nothing
    (asks "C1" "88" ∷ asks "C2" "88" ∷ asks "C3" "88" ∷ asks "C4" "88" ∷ asks "C9" "88" ∷ ticks 1 ∷ asks "C3" "88" ∷ [])
    -- "The start index is 0 until 'samples' sets are taken, then the place that would be written next."
    ∷ (two_places ∷ passes "A1" ∷ asks "C2" "00" ∷ asks "C4" "00 0030 0000" ∷ [])
    ∷ (two_places ∷ passes "A1 A2" ∷ asks "C2" "00" ∷ asks "C4" "00 0030 0000" ∷ [])
    -- "Set k since the start goes to place k modulo 'samples'"; "A tick changes only that place."; a start after a stop begins
    -- anew, at place 0
    ∷ (two_places ∷ passes "A1 A2 A3" ∷ asks "C2" "00" ∷ asks "D2 FF2F" "00 00 A3A2 00" ∷ asks "C4" "00 0030 0100" ∷ asks "C9" "00 00300000 0100" ∷ asks "C1" "00" ∷ asks "C3" "01" ∷ passes "B1" ∷ asks "D1 0030" "00 B1A2" ∷ asks "C2" "00" ∷ asks "C4" "00 0030 0000" ∷ [])
    -- "stopped answers 0x02"; "A stopped recorder does nothing at it."
    ∷ (two_places ∷ passes "A1" ∷ asks "C2" "00" ∷ asks "C2" "02" ∷ passes "A2" ∷ asks "C3" "02" ∷ asks "D1 0030" "00 A100" ∷ [])
    -- "After a start the first tick takes a set, then every (time divider + 1)th."; "running answers 0x01", and nothing changes
    ∷ (every_third ∷ passes "A1 A2" ∷ asks "C1" "01" ∷ passes "A3 A4 A5 A6 A7" ∷ asks "D1 0030" "00 A7A4" ∷ [])
    ∷ (every_third ∷ passes "A1 A2" ∷ asks "C2" "00" ∷ asks "C1" "00" ∷ passes "A3" ∷ asks "D1 0030" "00 A300" ∷ [])
    -- "bytes copied in the order of the definitions", "12,288 + p × set size"
    ∷ (asks "09 16 00 0200 0000 0000 0000 00 00 00000000 02 01 2000 01 1000" "00" ∷ puts 32 "11" ∷ passes "A1 A2" ∷ asks "01 03 05 0030" "00 11A1 11A2 00" ∷ [])
    -- a refused setup leaves the former one, which starts again; an accepted one takes its place
    ∷ (two_places ∷ asks "C2" "00" ∷ asks "09 13 00 0000 0000 0000 0000 00 00 00000000 01 01 1000" "86" ∷ asks "C3" "02" ∷ asks "C1" "00" ∷ passes "A1" ∷ asks "D1 0030" "00 A100" ∷ [])
    ∷ (two_places ∷ asks "C2" "00" ∷ asks "0B 17 00 0100 0000 0000 00000000 00 00 00000000 01 01 10000000" "00" ∷ passes "A1 A2" ∷ asks "D1 0030" "00 A200" ∷ [])
    -- a write, a scope and a recorder do not touch each other
    ∷ (asks "08 04 01 01 1100" "00" ∷ two_places ∷ asks "E3 1100 05 00" "00" ∷ asks "C5" "00 05" ∷ asks "C3" "01" ∷ asks "08 04 01 01 1000" "00" ∷ asks "C3" "01" ∷ asks "D0 1100" "00 05" ∷ [])
    ∷ []
