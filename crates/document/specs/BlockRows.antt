-- Rows for a block at once (2026-05): how many bytes are taken, how many written, and what stands at the front of the lent buffer.
use Rattle.std.specs.Prelude.{List, [], ◌∷◌, ◌++◌, ℕ, length, replicate}
use Prim.Native.String.{String}
use Rattle.document.specs.Hex.{hex}
use Rattle.document.specs.Areas.{bytes_at}
use Rattle.document.specs.Gate.{registered}
use Rattle.document.specs.Happenings.{Since, from_reset, after_all}
use Rattle.document.specs.Happenings.Happening.{aside}
use Rattle.document.specs.Asides.Aside.{writes}
use Rattle.document.specs.Rows.{zeros}
use Rattle.document.specs.Blocks.{Block, answers_on_wire, block_after}
use Rattle.document.specs.CallRows.{Line, line}

-- memory of zeros with 64 bytes 0x2B at 16: read, they make the longest answer, of 131 bytes
abbrev ready : Since
ready = after_all (from_reset (registered [] zeros)) (aside (writes 16 (replicate 64 0x2B)) ∷ [])

abbrev counts : Block → List ℕ
counts b = b.taken ∷ length b.written ∷ []

-- a start without a setup, 2B C1 3F, gets the answer 2B 88 78
abbrev row : ℕ → String → ℕ → ℕ → Line
row room bytes taken written = line (counts (block_after ready room (hex bytes))) (taken ∷ written ∷ [])

-- a block of so much room, and one of 132 behind it; what the two take and write
abbrev in_two : ℕ → String → String → List ℕ
in_two room bytes others = counts first ++ counts (block_after first.since 132 (hex others))
  where
    first : Block
    first = block_after ready room (hex bytes)

unfoldable pub block_rows : List Line
block_rows =
    -- "It takes bytes while 132 bytes of room are left, and no longer": three answers of 3 bytes
    row 131 "2BC13F" 0 0
    ∷ row 132 "2BC13F 2BC13F" 3 3
    ∷ row 135 "2BC13F 2BC13F 2BC13F" 6 6
    ∷ row 138 "2BC13F 2BC13F 2BC13F" 9 9
    -- whether the byte at which it stops would be answered or not
    ∷ row 132 "2BC13F 00" 3 3
    -- the longest answer leaves room for another, or one byte too little
    ∷ row 262 "2B01 03 40 1000 AC 2BC13F" 7 131
    ∷ row 263 "2B01 03 40 1000 AC 2BC13F" 10 134
    -- two answers of 129 and 3 bytes, and a third
    ∷ row 263 "2B01 03 40 1200 AA 2BC13F 2BC13F" 10 132
    ∷ row 264 "2B01 03 40 1200 AA 2BC13F 2BC13F" 13 135
    -- a block that ends inside a message
    ∷ row 132 "2BC1" 2 0
    ∷ row 132 "" 0 0
    -- "writes the answers one behind another"
    ∷ line (block_after ready 200 (hex "2BC13F 7F 2B7F0081 2BC1")).written (hex "2B8878 2B817F")
    ∷ line (answers_on_wire (record { status = 0x88; body = [] } ∷ record { status = 0; body = hex "7F" } ∷ [])) (hex "2B8878 2B007F81")
    ∷ line (length (block_after ready 200 (hex "2BC13F 7F 2B7F0081 2BC1")).since.answers ∷ []) (hex "02")
    -- the next block goes on where one ended, inside a message, or stopped; what was not taken is not carried out
    ∷ line (in_two 132 "2BC1" "3F") (hex "02 00 01 03")
    ∷ line (in_two 200 "2B01 03 40 10" "00 AC") (hex "05 00 02 83")
    ∷ line (in_two 132 "2BC13F 2BE3 1000 0500 08" "2BC13F") (hex "03 03 03 03")
    ∷ line (bytes_at (block_after ready 132 (hex "2BC13F 2BE3 1000 0500 08")).since.gate.memory 16 1 ++ bytes_at (block_after ready 132 (hex "2BE3 1000 0500 08")).since.gate.memory 16 1) (hex "2B 05")
    ∷ []
