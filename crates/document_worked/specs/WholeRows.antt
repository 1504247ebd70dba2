-- Rows that want a whole memory, and rows that are long: of the calls and the writers, and the scope.
use Rattle.std.specs.Prelude.{true, List, [], ◌∷◌, ◌++◌, replicate}
use Rattle.document.specs.Hex.{hex}
use Rattle.document.specs.Calls.{tick_refusal, byte_refusal}
use Rattle.document.specs.Rows.{Row, asks, puts}
use Rattle.document.specs.CallRows.{Line, line, lent, command_line, below, statuses}

-- "2 memory of another length", "3 a lent output buffer too short"; "Lowest number first"
unfoldable pub call_rows : List Line
call_rows =
    line (tick_refusal true (lent 16383) ∷ tick_refusal true (lent 16385) ∷ []) (hex "02 02")
    ∷ line (byte_refusal true (lent 16383) [] ∷ byte_refusal true (lent 16385) [] ∷ byte_refusal true (lent 16384) (lent 133) ∷ []) (hex "02 02 00")
    ∷ []

-- "standard data above 255"; "00 to 02 and 81 to 89", of all bytes
unfoldable pub writer_rows : List Line
writer_rows =
    command_line 0x01 (replicate 255 0) 259 0 259 (hex "2B 01 FF" ++ replicate 256 0)
    ∷ command_line 0x01 (replicate 256 0) 300 4 0 (lent 300)
    ∷ line (statuses (below 256)) (hex "00 01 02 81 82 83 84 85 86 87 88 89")
    ∷ []

-- "ranges are checked at setup": all that may be read, the last areas too
unfoldable pub scope_rows : List Row
scope_rows = (puts 12288 "11" ∷ puts 16383 "22" ∷ asks "08 07 02 01 0030 01 FF3F" "00" ∷ asks "C5" "00 11 22" ∷ []) ∷ []
