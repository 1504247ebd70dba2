-- Rows for what stays: with a scope, a recorder, an application command and tables in place, what comes over the line and what happens
-- beside it leave all that they do not name.
use Rattle.std.specs.Prelude.{List, [], ◌∷◌, ◌++◌, map, ℕ, replicate}
use Prim.Native.String.{String}
use Rattle.document.specs.Hex.{hex}
use Rattle.document.specs.Areas.{bytes_at}
use Rattle.document.specs.Application.{new_command, collect_buffer}
use Rattle.document.specs.Application.Application.{waiting}
use Rattle.document.specs.Gate.{Gate, fresh}
use Rattle.document.specs.Asides.Aside.{frames}
use Rattle.document.specs.Happenings.{from_reset}
use Rattle.document.specs.Rows.{zeros, Row, Step, hears, sends, asks, framed, wire, puts, ticks, passes, collecting, reporting, preparing, starting, after_steps}
use Rattle.document.specs.CallRows.{Line, line, lent, below}

-- ---- what is set up

-- the scope tells byte 17
abbrev watching : Step
watching = asks "08 04 01 01 1100" "00"

-- 2 places of a byte each
abbrev two_places : String
two_places = "00 0200 0000 0000 0000 00 00 00000000 01 01 1000"

abbrev recording : String → Step
recording status = sends (hex "09 13" ++ hex two_places) (hex status)

abbrev self_test : Step
self_test = asks "10 02 01 07" "00"

-- three sets are taken, so that the oldest stands at place 1
abbrev set_up : Row
set_up = puts 17 "A5" ∷ watching ∷ recording "00" ∷ passes "A1 A2 A3" ∷ self_test ∷ []

-- ---- what is told when all of it is in place

abbrev in_place : Row
in_place =
    asks "C5" "00 A5"
    ∷ asks "11 02 0100" "00 0200 1000 0820"
    ∷ asks "C6" "00 FE"
    ∷ asks "C3" "01"
    ∷ asks "C2" "00"
    ∷ asks "C4" "00 0030 0100"
    ∷ []

abbrev stays : Row → Row
stays between = set_up ++ between ++ in_place

-- a frame of the second port, for station 17
abbrev framing : String → Step
framing frame = record { bytes = []; asides = frames 17 (hex frame) ∷ []; answers = [] }

unfoldable pub stay_rows : List Row
stay_rows =
    -- all that writes: on either port, and the gate's own program
    map stays
    ((asks "E3 2000 05 00" "00" ∷ [])
    ∷ (asks "E5 2000 05 FF" "00" ∷ [])
    ∷ (framing "11 06 0010 0005 4A9C" ∷ asks "D0 2000" "00 05" ∷ [])
    ∷ (puts 32 "05" ∷ [])
    -- all that reads
    ∷ (asks "C0" "00 03000101004000100140 4C4F472047415445 0000000000000000000000000000000000" ∷ asks "D0 1100" "00 A5" ∷ asks "D4 2000" "00 0000" ∷ asks "11 02 0000" "00 0200 0800 0020" ∷ asks "C6" "00 FE" ∷ asks "C5" "00 A5" ∷ [])
    -- a setup of the scope, and two ticks, which leave the oldest set where it stood
    ∷ (watching ∷ ticks 2 ∷ [])
    -- a command that takes the place of one that has ended
    ∷ (collecting ∷ asks "C6" "00 FE" ∷ reporting 0x05 ∷ asks "C6" "00 05" ∷ self_test ∷ [])
    ∷ (collecting ∷ [])
    -- a start while it runs, over the line and from the panel
    ∷ (asks "C1" "01" ∷ starting ∷ [])
    -- what is refused: a setup while it runs, a command while one is pending, a wrong sum
    ∷ (recording "87" ∷ preparing (hex two_places) ∷ asks "10 01 02" "87" ∷ hears (framed 1 (hex "E3 1100 05 00")) (wire (hex "82") ∷ []) ∷ [])
    ∷ [])
    -- a further setup, preparing and starting, while all else is in place
    ++ map (λ (between : Row). set_up ++ (asks "C2" "00" ∷ []) ++ between ++ (asks "C3" "01" ∷ asks "C5" "00 A5" ∷ asks "11 02 0100" "00 0200 1000 0820" ∷ asks "C6" "00 FE" ∷ []))
    ((recording "00" ∷ [])
    ∷ (preparing (hex two_places) ∷ asks "C3" "02" ∷ starting ∷ [])
    ∷ (asks "C1" "00" ∷ [])
    ∷ [])
    -- a refused start of the panel leaves a pending command
    ++ ((watching ∷ self_test ∷ starting ∷ asks "C3" "88" ∷ asks "C6" "00 FE" ∷ collecting ∷ reporting 0x05 ∷ starting ∷ asks "C6" "00 05" ∷ asks "C5" "00 00" ∷ [])
    ∷ [])

-- ---- and what is left, where no answer tells it

abbrev left : List ℕ → Row → Gate
left memory row = (after_steps (from_reset (fresh memory)) row).gate

abbrev new : Row → List ℕ
new row = new_command (left (replicate 96 0) row).application

unfoldable pub left_rows : List Line
left_rows =
    -- a code and 63 arguments, all of them collected; two bytes behind them stay
    line (new (sends (hex "10 40" ++ below 64) (hex "00") ∷ [])) (below 64)
    ∷ line (collect_buffer (waiting (below 64)) (lent 66)) (below 64 ++ hex "AAAA")
    -- the command is new until it is collected, whatever comes between, and it does not come again with its result
    ∷ line (new (set_up ++ (asks "E3 2000 05 00" "00" ∷ watching ∷ framing "11 06 0010 0005 4A9C" ∷ puts 32 "05" ∷ ticks 1 ∷ asks "10 01 02" "87" ∷ reporting 0x05 ∷ []))) (hex "01 07")
    ∷ line (new (self_test ∷ collecting ∷ []) ++ new (self_test ∷ collecting ∷ reporting 0x05 ∷ collecting ∷ [])) []
    -- a tick writes its set
    ∷ line (bytes_at (left zeros (recording "00" ∷ passes "A1 A2" ∷ [])).memory 12287 4) (hex "00 A1 A2 00")
    ∷ []
