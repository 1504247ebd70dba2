-- The answer reader, over the bytes since the reading began: what a further byte gives.
use Rattle.std.specs.Prelude.{cond, List, [], ◌∷◌, ℕ, length, ltb}
use Rattle.std.proofs.lemmas.List.Edits.{sets}
use Rattle.document.specs.Numbers.{most_data, taken, room_refused, expected_refused, sum_refused}
use Rattle.document.specs.Answer.{Answer, Reading, reading_right, answer_finished_by}

-- "5 an expected length above 64"
abbrev pub begin_refusal : ℕ → ℕ
begin_refusal expected = cond (ltb most_data expected) expected_refused taken

-- what a byte brings: nothing yet, a whole right answer, or one "whose sum is wrong"
pub data Brought : Type 0 where
  nothing : Brought
  answer : Answer → Brought
  wrong : Brought

abbrev pub brought_by : List Reading → Brought
brought_by [] = nothing
brought_by (r ∷ rs) = cond (reading_right r) (answer r.answer) wrong

-- "consume no byte": refused with 3, the bytes since the beginning stay the same, and so does the buffer
unfoldable pub read_room_refusal : List ℕ → ℕ
read_room_refusal buffer = cond (ltb (length buffer) most_data) room_refused taken

-- "6 alone consumes its byte": the number with which the call answers a byte that it takes
abbrev pub read_refusal : Brought → ℕ
read_refusal nothing = taken
read_refusal (answer a) = taken
read_refusal wrong = sum_refused

-- "writes them only with a whole right answer"
abbrev pub read_buffer : Brought → List ℕ → List ℕ
read_buffer nothing buffer = buffer
read_buffer (answer a) buffer = sets buffer 0 a.body
read_buffer wrong buffer = buffer

-- what the byte b brings, after the bytes bs since the reading of `expected` data bytes began
unfoldable pub brought : ℕ → List ℕ → ℕ → Brought
brought expected bs b = brought_by (answer_finished_by expected bs b)
