-- Rows for a captured line: the numbers of the entries that a capture lists, and the whole lent list with its refusal.
use Rattle.std.specs.Prelude.{List, [], ◌∷◌, ◌++◌, ℕ, replicate}
use Prim.Native.String.{String}
use Rattle.document.specs.Hex.{hex}
use Rattle.document.specs.CallRows.{Line, line}
use Rattle.document_captures.specs.Captures.{captured, in_numbers, capture_refusal, capture_count, capture_list}

abbrev lists : List ℕ → List ℕ → Line
lists bytes numbers = line (in_numbers (captured bytes)) numbers

-- a capture, a list of so many numbers, each 7, and the refusal, the count and the whole list behind the call
abbrev lent : String → ℕ → List ℕ → Line
lent bytes n says = line (capture_refusal (hex bytes) (replicate n 7) ∷ capture_count (hex bytes) (replicate n 7) ∷ capture_list (hex bytes) (replicate n 7)) says

unfoldable pub capture_rows : List Line
capture_rows =
    lists [] []
    ∷ lists (hex "2BC838") (hex "00 C8 00")
    -- "where the start byte stands": behind noise, behind a doubled 0x2B, and of a second message behind one whose data has a doubled one
    ∷ lists (hex "55 01 2BC838 55 2BC838") (hex "02 C8 00 06 C8 00")
    ∷ lists (hex "2B2B 2BC838") (hex "02 C8 00")
    ∷ lists (hex "2B D0 2B2B 00 05 2BC838") (hex "00 D0 00 06 C8 00")
    -- a doubled 0x2B is no start, in noise or in a message
    ∷ lists (hex "2B2B C8 38") []
    ∷ lists (hex "2B2B2B2B C8 38") []
    ∷ lists (hex "2B D1 2B2B 00 04") (hex "00 D1 00")
    -- a start inside a message drops it and opens another: in its length, its data and before its sum byte
    ∷ lists (hex "2B 02 2B 02 05 2B D0 10 00 2BC838") (hex "09 C8 00")
    -- start bytes alone open nothing, and the last of an odd number waits
    ∷ lists (replicate 5 0x2B) []
    ∷ lists (replicate 5 0x2B ++ hex "C8 38") (hex "04 C8 00")
    -- a message that is not whole at the end: without sum byte, without the second byte of a doubled sum byte, without a command
    ∷ lists (hex "2BC838 2BC8") (hex "00 C8 00")
    ∷ lists (hex "2B D0 05 00 2B") []
    ∷ lists (hex "2B D0 05 00 2B2B") (hex "00 D0 00")
    ∷ lists (hex "2BC838 2B") (hex "00 C8 00")
    ∷ lists (hex "2B 01") []
    ∷ lists (hex "2B 01 00") []
    -- the sum is over command, length, data and sum byte: each of them counts
    ∷ lists (hex "2BC838 2BC938 2B 7F 00 81 2B 7F 01 00 80 2B 7F 01 01 80 2B 7F 01 01 7F 2B 7F 01 00 81") (hex "00 C8 00 03 C9 01 06 7F 00 0A 7F 00 0F 7F 01 14 7F 00 19 7F 01")
    -- a command that is not served counts as any other, with data as bits 5 and 4 say
    ∷ lists (hex "2B CF 31 2B DF 01 02 1E 2B EF 01 02 03 04 07 2B FF 01 02 03 04 05 06 EC") (hex "00 CF 00 03 DF 00 08 EF 00 0F FF 00")
    -- the last command with a length byte, and the first without one
    ∷ lists (hex "2B BF 00 41 2B C0 40") (hex "00 BF 00 04 C0 00")
    -- 64 data bytes are not too long; 65 are, and with a wrong sum they are a wrong sum
    ∷ lists (hex "2B 02 40" ++ replicate 64 0x01 ++ hex "7E") (hex "00 02 00")
    ∷ lists (hex "2B 02 41" ++ replicate 65 0x01 ++ hex "7C") (hex "00 02 02")
    ∷ lists (hex "2B 02 41" ++ replicate 65 0x01 ++ hex "7D") (hex "00 02 01")
    -- 255 are, and behind them the next is found
    ∷ lists (hex "2B 02 FF" ++ replicate 255 0x38 ++ hex "37 2BC838") (hex "00 02 02" ++ 259 ∷ 0xC8 ∷ 0 ∷ [])
    ∷ []

unfoldable pub lent_rows : List Line
lent_rows =
    -- "3 when the lent list is too short": where more are found than it holds, and not where as many are; room in entries
    lent "2BC838" 2 (3 ∷ 0 ∷ 7 ∷ 7 ∷ [])
    ∷ lent "2BC838" 3 (hex "00 01 00 C8 00")
    ∷ lent "2BC838 2BC939" 5 (3 ∷ 0 ∷ replicate 5 7)
    ∷ lent "2BC838 2BC939" 6 (hex "00 02 00 C8 00 03 C9 01")
    -- numbers behind the entries stay
    ∷ lent "2BC838" 7 (hex "00 01 00 C8 00" ++ replicate 4 7)
    -- none are found: no room is room enough, and an unfinished message takes none
    ∷ lent "" 0 (0 ∷ 0 ∷ [])
    ∷ lent "2B D0 10" 1 (0 ∷ 0 ∷ 7 ∷ [])
    ∷ []
