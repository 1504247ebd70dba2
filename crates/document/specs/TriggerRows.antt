-- Rows for the run with a trigger: byte 16 is recorded, and rises to 0x80.
use Rattle.std.specs.Prelude.{List, [], ◌∷◌, ◌++◌}
use Prim.Native.String.{String}
use Rattle.document.specs.Hex.{hex}
use Rattle.document.specs.Rows.{Row, Step, asks, sends, puts, passes}

-- 2 places; the post-trigger and the time divider
abbrev runs : String → String → Step
runs post_trigger divider =
    sends (hex "09 13 01 0200" ++ hex post_trigger ++ hex divider ++ hex "1000 01 00 80000000 01 01 1000") (hex "00")

-- the same falling to 0x80, with post-trigger 0
abbrev falls : Step
falls = asks "09 13 02 0200 0000 0000 1000 01 00 80000000 01 01 1000" "00"

unfoldable pub trigger_rows : List Row
trigger_rows =
    -- "With 0 it stops at that tick.": its set is taken, and none behind it
    (runs "0000" "0000" ∷ passes "10 90 91" ∷ asks "C3" "02" ∷ asks "D2 0030" "00 1090 0000" ∷ [])
    -- "the post-trigger number of further sets is taken; the recorder stops with the last"
    ∷ (runs "0100" "0000" ∷ passes "10 90" ∷ asks "C3" "01" ∷ passes "91" ∷ asks "C3" "02" ∷ passes "92" ∷ asks "D1 0030" "00 9190" ∷ asks "C4" "00 0030 0100" ∷ [])
    -- "Post-trigger may exceed the samples."
    ∷ (runs "0300" "0000" ∷ passes "10 90 91 92" ∷ asks "C3" "01" ∷ passes "93 94" ∷ asks "C3" "02" ∷ asks "D1 0030" "00 9392" ∷ [])
    -- "it thus stops post-trigger × (time divider + 1) ticks after the trigger"
    ∷ (runs "0100" "0100" ∷ passes "10 10 90 91" ∷ asks "C3" "01" ∷ passes "92" ∷ asks "C3" "02" ∷ asks "D1 0030" "00 9290" ∷ [])
    -- "if no trigger has come": another edge behind it counts for nothing
    ∷ (runs "0200" "0000" ∷ passes "10 90 10" ∷ asks "C3" "01" ∷ passes "90" ∷ asks "C3" "02" ∷ [])
    -- 2026-02: the first set fires at or above the threshold, not below it; behind a setup, and behind a start
    ∷ (runs "0000" "0000" ∷ passes "90" ∷ asks "C3" "02" ∷ passes "91" ∷ asks "D2 0030" "00 9000 0000" ∷ asks "C4" "00 0030 0000" ∷ [])
    ∷ (runs "0000" "0000" ∷ passes "80" ∷ asks "C3" "02" ∷ [])
    ∷ (runs "0000" "0000" ∷ passes "7F" ∷ asks "C3" "01" ∷ passes "7F 80" ∷ asks "C3" "02" ∷ [])
    ∷ (runs "0000" "0000" ∷ passes "10" ∷ asks "C2" "00" ∷ asks "C1" "00" ∷ passes "90" ∷ asks "C3" "02" ∷ [])
    -- and what follows a trigger follows this one
    ∷ (runs "0200" "0000" ∷ passes "90 10" ∷ asks "C3" "01" ∷ passes "91" ∷ asks "C3" "02" ∷ asks "D1 0030" "00 9110" ∷ [])
    ∷ (runs "0200" "0100" ∷ passes "90 10 10 10" ∷ asks "C3" "01" ∷ passes "10" ∷ asks "C3" "02" ∷ [])
    -- a falling trigger fires at or below it
    ∷ (falls ∷ passes "80" ∷ asks "C3" "02" ∷ asks "C1" "00" ∷ passes "7F" ∷ asks "C3" "02" ∷ asks "C1" "00" ∷ passes "81" ∷ asks "C3" "01" ∷ [])
    -- "the value at the previous set", not at the previous tick
    ∷ (runs "0000" "0100" ∷ passes "10 90 11" ∷ asks "C3" "01" ∷ passes "10 90" ∷ asks "C3" "02" ∷ [])
    ∷ (runs "0000" "0100" ∷ passes "10 90 91" ∷ asks "C3" "02" ∷ [])
    -- a start forgets the trigger
    ∷ (runs "0000" "0000" ∷ passes "10 90" ∷ asks "C1" "00" ∷ passes "10 11" ∷ asks "C3" "01" ∷ [])
    -- one that changes nothing forgets neither the trigger nor the value before it
    ∷ (runs "0100" "0000" ∷ passes "10" ∷ asks "C1" "01" ∷ passes "90" ∷ asks "C1" "01" ∷ passes "91" ∷ asks "C3" "02" ∷ [])
    -- "Unless a stop comes sooner"
    ∷ (runs "0500" "0000" ∷ passes "10 90" ∷ asks "C2" "00" ∷ asks "C2" "02" ∷ [])
    -- in an EX setup; and of a variable that is not recorded
    ∷ (asks "0B 17 01 0200 0000 0000 10000000 01 00 80000000 01 01 10000000" "00" ∷ passes "10 90" ∷ asks "C3" "02" ∷ [])
    ∷ (asks "09 13 02 0200 0000 0000 1000 01 00 80000000 01 01 2000" "00" ∷ puts 32 "11" ∷ passes "90 10" ∷ asks "C3" "02" ∷ asks "D1 0030" "00 1111" ∷ [])
    ∷ []
