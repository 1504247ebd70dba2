-- Rows for "The line", with every byte of it written out.
use Rattle.std.specs.Prelude.{List, [], ◌∷◌, ◌++◌, replicate}
use Rattle.document.specs.Hex.{hex}
use Rattle.document.specs.Pairing.{Token, paired}
use Rattle.document.specs.Pairing.Token.{start, literal}
use Rattle.document.specs.Rows.{Row, hears, puts}

unfoldable pub line_rows : List Row
line_rows =
    -- "Literals outside a message are dropped.": before a message, and behind its sum byte
    (hears (hex "00 C8 38 2B C8 38 C8 38 2B C8 38") (hex "2B 00 03 00 01 01 00 40 BB" ∷ hex "2B 00 03 00 01 01 00 40 BB" ∷ []) ∷ [])
    -- what happens beside the line leaves a message whole
    ∷ (hears (hex "2B D0 10") [] ∷ puts 16 "7F" ∷ hears (hex "00 20") (hex "2B 00 7F 81" ∷ []) ∷ [])
    -- "A last 0x2B without a follower waits.", also behind a whole message
    ∷ (hears (hex "2B C8 38 2B") (hex "2B 00 03 00 01 01 00 40 BB" ∷ []) ∷ hears (hex "D0 10 00 20") (hex "2B 00 00 00" ∷ []) ∷ [])
    -- a sum byte of 0x2B is doubled, and the answer comes with its last wire byte; a third 0x2B is another start
    ∷ (hears (hex "2B D0 05 00 2B") [] ∷ puts 5 "7F" ∷ hears (hex "2B") (hex "2B 00 7F 81" ∷ []) ∷ hears (hex "2B C8 38") (hex "2B 00 03 00 01 01 00 40 BB" ∷ []) ∷ [])
    -- the same sum byte, not doubled: a start opens another message
    ∷ (hears (hex "2B D0 05 00 2B C8 38") (hex "2B 00 03 00 01 01 00 40 BB" ∷ []) ∷ [])
    -- a length of 43 is doubled too: 40 data bytes are written from byte 16 on, one of them 0x2B
    ∷ (hears (hex "2B 02 2B2B 28 10 00" ++ replicate 39 0x01 ++ hex "2B2B 49") (hex "2B 00 00" ∷ [])
    ∷ hears (hex "2B D2 34 00 FA") (hex "2B 00 01 01 01 2B2B D2" ∷ []) ∷ [])
    -- "every 0x2B in data or sum byte is doubled": an answer whose sum byte is one
    ∷ (puts 16 "D5" ∷ hears (hex "2B D0 10 00 20") (hex "2B 00 D5 2B2B" ∷ []) ∷ [])
    -- "A start drops any unfinished message without an answer": in its length, its data and before its sum byte
    ∷ (hears (hex "2B 02 2B 02 05 2B D0 10 00 2B C8 38") (hex "2B 00 03 00 01 01 00 40 BB" ∷ []) ∷ [])
    -- a fast command that is not served has its data too, as "bits 5 and 4" say: 0, 2, 4 and 6 bytes
    ∷ (hears (hex "2B CF 31") (hex "2B 81 7F" ∷ []) ∷ hears (hex "2B DF 01 02 1E") (hex "2B 81 7F" ∷ []) ∷ [])
    ∷ (hears (hex "2B EF 01 02 03 04 07") (hex "2B 81 7F" ∷ []) ∷ hears (hex "2B FF 01 02 03 04 05 06 EC") (hex "2B 81 7F" ∷ []) ∷ [])
    -- the sum over command, length and data: each of them counts
    ∷ (hears (hex "2B D0 10 00 A0") (hex "2B 82 7E" ∷ []) ∷ hears (hex "2B D1 10 00 20") (hex "2B 82 7E" ∷ []) ∷ hears (hex "2B 01 03 01 10 00 EC") (hex "2B 82 7E" ∷ []) ∷ hears (hex "2B 01 03 01 10 00 EB") (hex "2B 00 00 00" ∷ []) ∷ [])
    ∷ []

-- long messages, which byte by byte are slow to compute
unfoldable pub long_line_rows : List Row
long_line_rows =
    -- "Length byte 40 is accepted; 41 with a right sum gives 2B 83 7D", and so does 255, all of whose data are passed over
    (hears (hex "2B 02 40 3D 10 00" ++ replicate 61 0x01 ++ hex "34") (hex "2B 00 00" ∷ []) ∷ [])
    ∷ (hears (hex "2B 02 41 3E 10 00" ++ replicate 62 0x01 ++ hex "31") (hex "2B 83 7D" ∷ []) ∷ [])
    ∷ (hears (hex "2B 02 FF" ++ replicate 255 0x38 ++ hex "37 2B C8 38") (hex "2B 83 7D" ∷ hex "2B 00 03 00 01 01 00 40 BB" ∷ []) ∷ [])
    ∷ []

-- ---- "Bytes since reset are paired from the left.": a start, doubled bytes, and one that waits

abbrev pub paired_bytes : List Token
paired_bytes = paired (hex "01 2B C8 2B2B 2B2B 2B 00 2B")

abbrev pub tokens : List Token
tokens = literal 0x01 ∷ start ∷ literal 0xC8 ∷ literal 0x2B ∷ literal 0x2B ∷ start ∷ literal 0x00 ∷ []
