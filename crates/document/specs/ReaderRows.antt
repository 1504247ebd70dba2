-- Rows for the answer reader, byte by byte: what each byte brings that brings something.
use Rattle.std.specs.Prelude.{List, [], ◌∷◌, ◌++◌, ℕ, replicate, length}
use Prim.Native.String.{String}
use Rattle.document.specs.Hex.{hex}
use Rattle.document.specs.AnswerReader.{Brought, begin_refusal, read_room_refusal, read_refusal, read_buffer, brought}
use Rattle.document.specs.AnswerReader.Brought.{nothing, answer, wrong}
use Rattle.document.specs.CallRows.{Line}

-- ---- a byte's place, counted from 0; the number that answers it; then a status, and the buffer

abbrev as_bytes : ℕ → Brought → List ℕ
as_bytes place nothing = []
as_bytes place (answer a) = place ∷ read_refusal (answer a) ∷ a.status ∷ read_buffer (answer a) (hex "AAAA")
as_bytes place wrong = place ∷ read_refusal wrong ∷ read_buffer wrong (hex "AAAA")

abbrev brought_from : ℕ → List ℕ → List ℕ → List ℕ
brought_from expected before [] = []
brought_from expected before (b ∷ bs) =
    as_bytes (length before) (brought expected before b) ++ brought_from expected (before ++ (b ∷ [])) bs

abbrev reads : ℕ → String → String → Line
reads expected bytes says = record { gives = brought_from expected [] (hex bytes); says = hex says }

unfoldable pub reader_rows : List Line
reader_rows =
    reads 1 "2B 00 7F 81" "03 00 00 7FAA"
    ∷ reads 0 "2B 00 00" "02 00 00 AAAA"
    ∷ reads 2 "2B 02 01 02 FB" "04 00 02 0102"
    -- "data of the length fixed when the reading began follow a clear top bit, none a set one"; "takes any status"
    ∷ reads 2 "2B 89 77" "02 00 89 AAAA"
    ∷ reads 2 "2B 80 80" "02 00 80 AAAA"
    ∷ reads 1 "2B 7F 01 80" "03 00 7F 01AA"
    -- "pairs as the line does": doubled data and sum byte, a literal outside, a start that drops
    ∷ reads 1 "2B 00 2B2B D5" "04 00 00 2BAA"
    ∷ reads 1 "2B 00 D5 2B2B" "04 00 00 D5AA"
    ∷ reads 1 "00 2B2B 2B 00 7F 81" "06 00 00 7FAA"
    ∷ reads 1 "2B 00 7F 2B 00 01 FF" "06 00 00 01AA"
    -- "6 a finished answer whose sum is wrong", and the next one is read
    ∷ reads 1 "2B 00 7F 80 2B 00 7F 81" "03 06 AAAA 07 00 00 7FAA"
    ∷ reads 1 "2B 81 7E 2B 00 7F 81 81" "02 06 AAAA 06 00 00 7FAA"
    -- "5 an expected length above 64"; "the answer reader needs 64 for data"
    ∷ record {
      gives = begin_refusal 0 ∷ begin_refusal 64 ∷ begin_refusal 65 ∷ read_refusal nothing ∷ read_buffer nothing (hex "AA");
      says = hex "00 00 05 00 AA";
    }
    ∷ record { gives = read_room_refusal (replicate 63 0) ∷ read_room_refusal (replicate 64 0) ∷ read_room_refusal (replicate 65 0) ∷ []; says = hex "03 00 00" }
    ∷ []
