-- Rows for the calls: the numbers with which the gate's two calls and the two writers refuse, and what they leave.
use Rattle.std.specs.Prelude.{true, false, cond, List, [], ◌∷◌, ◌++◌, ℕ, zero, suc, replicate}
use Prim.Native.String.{String}
use Rattle.document.specs.Hex.{hex}
use Rattle.document.specs.Numbers.{is_status, is_error}
use Rattle.document.specs.Answer.{Answer}
use Rattle.document.specs.Calls.{tick_refusal, byte_refusal, answer_buffer_after}
use Rattle.document.specs.AnswerWriter.{answer_refusal, answer_written, answer_buffer}
use Rattle.document.specs.CommandWriter.{command_refusal, command_written, command_buffer}

-- what a definition gives, and what the row says
pub record Line : Type 0 where
  pub gives : List ℕ
  pub says : List ℕ

abbrev pub line : List ℕ → List ℕ → Line
line gives says = record { gives = gives; says = says }

-- a lent buffer of n bytes, each 0xAA
abbrev pub lent : ℕ → List ℕ
lent n = replicate n 0xAA

-- ---- "1 a state outside the bounds", "2 memory of another length", "3 a lent output buffer too short"; "Lowest number first"
unfoldable pub call_rows : List Line
call_rows =
    line (tick_refusal false [] ∷ tick_refusal true [] ∷ byte_refusal true [] [] ∷ byte_refusal false [] [] ∷ []) (hex "01 02 02 01")
    ∷ line (tick_refusal true (lent 16384) ∷ byte_refusal true (lent 16384) (lent 132) ∷ byte_refusal true (lent 16384) (lent 131) ∷ []) (hex "00 00 03")
    -- "Bytes of it behind the answer keep their values; without an answer, all do."
    ∷ line (answer_buffer_after [] (lent 6)) (hex "AA AA AA AA AA AA")
    ∷ line (answer_buffer_after (record { status = 0; body = 0x7F ∷ [] } ∷ record { status = 0x81; body = [] } ∷ []) (lent 6)) (hex "2B 00 7F 81 AA AA")
    ∷ []

-- ---- the answer writer: an answer, the room for it, and its refusal, the bytes written and those at the front

abbrev answer_line : String → List ℕ → ℕ → ℕ → ℕ → List ℕ → Line
answer_line status body room refusal written front =
    line (all (hex status)) (refusal ∷ written ∷ front)
  where
    answer : ℕ → Answer
    answer s = record { status = s; body = body }

    all : List ℕ → List ℕ
    all [] = []
    all (s ∷ ss) = answer_refusal (answer s) (lent room) ∷ answer_written (answer s) (lent room) ∷ answer_buffer (answer s) (lent room)

unfoldable pub answer_rows : List Line
answer_rows =
    answer_line "00" [] 132 0 3 (hex "2B 00 00" ++ lent 129)
    ∷ answer_line "00" (hex "2B D5") 133 0 6 (hex "2B 00 2B2B D5 00" ++ lent 127)
    ∷ answer_line "89" [] 132 0 3 (hex "2B 89 77" ++ lent 129)
    ∷ answer_line "00" (replicate 64 0) 132 0 67 (hex "2B" ++ replicate 66 0 ++ lent 65)
    -- "a status other than 00 to 02 and 81 to 89, answer data above 64 or beside an error"
    ∷ answer_line "03" [] 132 4 0 (lent 132)
    ∷ answer_line "00" (replicate 65 0) 132 4 0 (lent 132)
    ∷ answer_line "81" (0 ∷ []) 132 4 0 (lent 132)
    -- "the answer writer 132"; "a writer looks at 4 before 3"
    ∷ answer_line "00" [] 131 3 0 (lent 131)
    ∷ answer_line "03" [] 131 4 0 (lent 131)
    ∷ []

-- ---- the command writer: a command and its data, the room, and the same

abbrev pub command_line : ℕ → List ℕ → ℕ → ℕ → ℕ → List ℕ → Line
command_line c body room refusal written front =
    line
    (command_refusal c body (lent room) ∷ command_written c body (lent room) ∷ command_buffer c body (lent room))
    (refusal ∷ written ∷ front)

unfoldable pub command_rows : List Line
command_rows =
    command_line 0xC8 [] 3 0 3 (hex "2B C8 38")
    ∷ command_line 0xD0 (hex "2B00") 8 0 6 (hex "2B D0 2B2B00 05 AAAA")
    ∷ command_line 0xD0 (hex "0500") 6 0 6 (hex "2B D0 0500 2B2B")
    ∷ command_line 0x02 (hex "01 1000 2B") 9 0 9 (hex "2B 02 04 01 1000 2B2B BE")
    ∷ command_line 0x05 (replicate 43 0) 48 0 48 (hex "2B 05 2B2B" ++ replicate 43 0 ++ hex "D0")
    -- "The command writer needs just the bytes it writes"
    ∷ command_line 0xC8 [] 2 3 0 (lent 2)
    ∷ command_line 0xD0 (hex "2B00") 5 3 0 (lent 5)
    -- "command 0x2B, fast data of another length than the code gives, standard data above 255"; "4 before 3"
    ∷ command_line 0x2B [] 9 4 0 (lent 9)
    ∷ command_line 0xC8 (hex "00") 9 4 0 (lent 9)
    ∷ command_line 0xD0 (hex "10") 0 4 0 []
    ∷ command_line 0xFF (hex "010203040506") 9 0 9 (hex "2B FF 010203040506 EC")
    ∷ []

-- ---- "00 to 02 and 81 to 89"; "A status with its top bit set"

abbrev pub below : ℕ → List ℕ
below zero = []
below (suc n) = below n ++ (n ∷ [])

abbrev pub statuses : List ℕ → List ℕ
statuses [] = []
statuses (s ∷ ss) = cond (is_status s) (s ∷ statuses ss) (statuses ss)

abbrev errors : List ℕ → List ℕ
errors [] = []
errors (s ∷ ss) = cond (is_error s) (s ∷ errors ss) (errors ss)

unfoldable pub status_rows : List Line
status_rows =
    line (statuses (hex "00 01 02 03 7F 80 81 88 89 8A FF")) (hex "00 01 02 81 88 89")
    ∷ line (errors (hex "00 02 7F 80 81 89 FF")) (hex "80 81 89 FF")
    ∷ []
