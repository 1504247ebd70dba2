-- Rows for the front panel (2026-06). Byte 16 is recorded, and the buffer is read from byte 12,288 on.
use Rattle.std.specs.Prelude.{true, false, List, [], ◌∷◌, ◌++◌, ℕ, replicate}
use Rattle.document.specs.Hex.{hex}
use Rattle.document.specs.Gate.{Gate, fresh}
use Rattle.document.specs.Happenings.{from_reset}
use Rattle.document.specs.Panel.{panel_prepares, panel_starts, panel_refusal}
use Rattle.document.specs.Rows.{zeros, Row, Step, asks, sends, hears, passes, preparing, starting, after_steps}
use Rattle.document.specs.CallRows.{Line, line}

-- "0x09's data part": 2 places of a byte each, the time divider 0 or 2; one without samples
abbrev two_places : List ℕ
two_places = hex "00 0200 0000 0000 0000 00 00 00000000 01 01 1000"

abbrev every_third : List ℕ
every_third = hex "00 0200 0000 0200 0000 00 00 00000000 01 01 1000"

abbrev no_samples : List ℕ
no_samples = hex "00 0000 0000 0000 0000 00 00 00000000 01 01 1000"

-- the same over the line
abbrev recording : Step
recording = sends (hex "09 13" ++ two_places) (hex "00")

-- a full trace of an earlier run, whose oldest set stands at place 1
abbrev traced : Row
traced = recording ∷ passes "A1 A2 A3" ∷ asks "C2" "00" ∷ asks "C4" "00 0030 0100" ∷ []

unfoldable pub panel_rows : List Row
panel_rows =
    -- "A recorder prepared and not started since answers 0x02 to 0xC3 and start index 0 to 0xC4."; the buffer stays
    (traced ++ (preparing two_places ∷ asks "C3" "02" ∷ asks "C4" "00 0030 0000" ∷ asks "C9" "00 00300000 0000" ∷ asks "C2" "02" ∷ asks "D1 0030" "00 A3A2" ∷ []))
    -- "A stopped recorder does nothing at it."; 0xC1 and the panel start it
    ∷ (preparing every_third ∷ passes "A1" ∷ asks "D1 0030" "00 0000" ∷ asks "C1" "00" ∷ asks "C3" "01" ∷ passes "B1 B2 B3 B4" ∷ asks "D1 0030" "00 B1B4" ∷ [])
    ∷ (preparing two_places ∷ passes "A1" ∷ starting ∷ asks "C3" "01" ∷ passes "B1 B2" ∷ asks "D1 0030" "00 B1B2" ∷ [])
    -- a further setup is accepted, over the line and from the panel, and takes the place of the one before
    ∷ (preparing every_third ∷ recording ∷ asks "C3" "01" ∷ passes "A1 A2" ∷ asks "D1 0030" "00 A1A2" ∷ [])
    ∷ (preparing two_places ∷ preparing every_third ∷ starting ∷ passes "A1 A2" ∷ asks "D1 0030" "00 A100" ∷ [])
    -- refused, the former setup stays with its start index, and a running recorder goes on
    ∷ (traced ++ (preparing no_samples ∷ asks "C4" "00 0030 0100" ∷ starting ∷ passes "B1" ∷ asks "D1 0030" "00 B1A2" ∷ []))
    ∷ (recording ∷ passes "A1" ∷ preparing every_third ∷ starting ∷ asks "C3" "01" ∷ passes "A2" ∷ asks "D1 0030" "00 A1A2" ∷ [])
    ∷ (preparing no_samples ∷ starting ∷ asks "C3" "88" ∷ [])
    ∷ []

-- in the midst of a message, which then goes on undisturbed
unfoldable pub midst_rows : List Row
midst_rows =
    (hears (hex "2B C9") [] ∷ preparing two_places ∷ hears (hex "37") (hex "2B 00 00300000 0000 D0" ∷ []) ∷ [])
    ∷ (hears (hex "2B D0 10") [] ∷ preparing two_places ∷ hears (hex "00") [] ∷ starting ∷ hears (hex "20") (hex "2B 00 00 00" ∷ []) ∷ asks "C3" "01" ∷ [])
    ∷ []

-- ---- what the panel is told

abbrev gate_after : Row → Gate
gate_after row = (after_steps (from_reset (fresh zeros)) row).gate

abbrev prepared_status : Row → List ℕ → ℕ
prepared_status row setup = (panel_prepares (gate_after row) setup).answer.status

abbrev told_start : Row → ℕ
told_start row = (panel_starts (gate_after row)).answer.status

unfoldable pub panel_lines : List Line
panel_lines =
    -- "above 64 bytes 0x83", also while the recorder runs; 64 bytes are looked at
    line (prepared_status [] (replicate 65 0) ∷ prepared_status (recording ∷ []) (replicate 65 0) ∷ prepared_status [] (replicate 64 0) ∷ []) (hex "83 83 85")
    -- "the same statuses, in 01's order": no data while it runs; no data; 0 samples of a variable in the buffer; that variable
    ∷ line (prepared_status (recording ∷ []) [] ∷ prepared_status [] [] ∷ []) (hex "87 85")
    ∷ line (prepared_status [] (hex "00 0000 0000 0000 0000 00 00 00000000 01 01 0030") ∷ prepared_status [] (hex "00 0200 0000 0000 0000 00 00 00000000 01 01 0030") ∷ []) (hex "86 89")
    ∷ line (prepared_status [] two_places ∷ prepared_status (preparing two_places ∷ []) two_places ∷ prepared_status traced two_places ∷ []) (hex "00 00 00")
    -- as 0xC1
    ∷ line (told_start [] ∷ told_start (recording ∷ []) ∷ told_start (preparing two_places ∷ []) ∷ told_start traced ∷ []) (hex "88 01 00 00")
    ∷ line (panel_refusal true ∷ panel_refusal false ∷ []) (hex "00 01")
    ∷ []
