-- Answers: from the target to the other end of the cable.
use Rattle.std.specs.Prelude.{Bool, cond, List, [], ◌∷◌, ◌++◌, ℕ, length, take, drop, get_or, ltb}
use Rattle.document.specs.Numbers.{is_error}
use Rattle.document.specs.Sum.{adds_up, sum_byte_of}
use Rattle.document.specs.Doubling.{stuffed}
use Rattle.document.specs.Pairing.{paired, opened}

pub record Answer : Type 0 where
  pub status : ℕ
  pub body : List ℕ

-- "An answer is 0x2B, status, data, sum byte; every 0x2B in data or sum byte is doubled."
unfoldable pub answer_on_wire : Answer → List ℕ
answer_on_wire a = 0x2B ∷ a.status ∷ stuffed (a.body ++ (sum_byte_of (a.status ∷ a.body) ∷ []))

-- ---- the same, as the other end reads it

-- a whole answer, its sum right or wrong
pub record Reading : Type 0 where
  pub answer : Answer
  pub sum_byte : ℕ

abbrev pub reading_right : Reading → Bool
reading_right r = adds_up (r.answer.status ∷ r.answer.body ++ (r.sum_byte ∷ []))

abbrev pub answer_of_length : ℕ → ℕ → List ℕ → List Reading
answer_of_length s n ls =
    cond (ltb n (length ls)) (record { answer = record { status = s; body = take n ls }; sum_byte = get_or ls n 0 } ∷ []) []

-- "data of the length fixed when the reading began follow a clear top bit, none a set one"
abbrev pub whole_answer : ℕ → List ℕ → List Reading
whole_answer expected [] = []
whole_answer expected (s ∷ ls) = answer_of_length s (cond (is_error s) 0 expected) ls

-- "The answer reader pairs as the line does and takes any status": the answers in the bytes since the reading began
unfoldable pub answers_heard : ℕ → List ℕ → List Reading
answers_heard expected bs = opened (whole_answer expected) (paired bs)

-- what the byte b finishes, after the bytes bs
unfoldable pub answer_finished_by : ℕ → List ℕ → ℕ → List Reading
answer_finished_by expected bs b = drop (length (answers_heard expected bs)) (answers_heard expected (bs ++ (b ∷ [])))
