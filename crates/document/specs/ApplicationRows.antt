-- Rows for the application commands (2026-01): sent, collected, reported, and asked for.
use Rattle.std.specs.Prelude.{true, false, List, [], ◌∷◌, ◌++◌, replicate}
use Rattle.document.specs.Hex.{hex}
use Rattle.document.specs.Application.{Application, collect_refusal, collect_buffer, report_refusal}
use Rattle.document.specs.Application.Application.{none, waiting, collected, ended}
use Rattle.document.specs.Rows.{Row, Step, asks, sends, collecting, reporting}
use Rattle.document.specs.CallRows.{Line, line, lent}

-- the self-test, with one argument
abbrev self_test : Step
self_test = asks "10 02 01 07" "00"

unfoldable pub application_rows : List Row
application_rows =
    -- "0xFF before any command, 0xFE until the result is in, then the result"
    (asks "C6" "00 FF" ∷ self_test ∷ asks "C6" "00 FE" ∷ collecting ∷ asks "C6" "00 FE" ∷ reporting 0x05 ∷ asks "C6" "00 05" ∷ asks "C6" "00 05" ∷ [])
    -- "0x10 while one is pending 0x87", collected or not; the result makes room for the next
    ∷ (self_test ∷ asks "10 01 02" "87" ∷ collecting ∷ asks "10 01 02" "87" ∷ reporting 0xFD ∷ asks "C6" "00 FD" ∷ asks "10 01 02" "00" ∷ asks "C6" "00 FE" ∷ [])
    -- "an empty data part 0x85", which is no command; while one is pending, 0x87 comes first
    ∷ (asks "10 00" "85" ∷ asks "C6" "00 FF" ∷ self_test ∷ asks "10 00" "87" ∷ [])
    -- a code and 63 arguments; one more is 0x83
    ∷ (sends (hex "10 40" ++ replicate 64 0x11) (hex "00") ∷ asks "C6" "00 FE" ∷ [])
    ∷ (sends (hex "10 41" ++ replicate 65 0x11) (hex "83") ∷ asks "C6" "00 FF" ∷ [])
    -- a collecting with nothing new, and a report with nothing collected, change nothing
    ∷ (collecting ∷ reporting 0x01 ∷ asks "C6" "00 FF" ∷ self_test ∷ reporting 0x01 ∷ asks "C6" "00 FE" ∷ collecting ∷ collecting ∷ reporting 0x02 ∷ reporting 0x03 ∷ asks "C6" "00 02" ∷ [])
    -- a result of 0 is one; a collecting behind it leaves it
    ∷ (self_test ∷ collecting ∷ reporting 0x00 ∷ asks "C6" "00 00" ∷ collecting ∷ asks "C6" "00 00" ∷ [])
    ∷ []

abbrev sent : Application
sent = waiting (hex "01 07")

-- ---- the two calls: "(3 when fewer)"; "call number 7 for a result above 0xFD or with no collected command pending"
unfoldable pub collect_rows : List Line
collect_rows =
    line (collect_refusal true (lent 64) ∷ collect_refusal true (lent 63) ∷ collect_refusal false [] ∷ []) (hex "00 03 01")
    -- "Bytes behind the command, or all when nothing is new, keep their values."
    ∷ line (collect_buffer sent (lent 4)) (hex "01 07 AA AA")
    ∷ line (collect_buffer none (lent 2) ++ collect_buffer collected (lent 2) ++ collect_buffer (ended 0) (lent 2)) (hex "AAAA AAAA AAAA")
    ∷ line (report_refusal true collected 0 ∷ report_refusal true collected 0xFD ∷ report_refusal true collected 0xFE ∷ report_refusal true collected 0xFF ∷ []) (hex "00 00 07 07")
    ∷ line (report_refusal true none 0 ∷ report_refusal true sent 0 ∷ report_refusal true (ended 0) 0 ∷ report_refusal false none 0xFF ∷ []) (hex "07 07 07 01")
    ∷ []
