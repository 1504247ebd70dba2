-- The answer writer: what it refuses, and what it leaves in the buffer that it is lent.
use Rattle.std.specs.Prelude.{Bool, cond, not, ◌&&◌, List, ℕ, length, ltb, eqb}
use Rattle.std.proofs.lemmas.List.Edits.{sets}
use Rattle.document.specs.Numbers.{most_data, answer_room, is_status, is_error, taken, form_refused, room_refused}
use Rattle.document.specs.Answer.{Answer, answer_on_wire}

-- "4 .. a status other than 00 to 02 and 81 to 89, answer data above 64 or beside an error"
abbrev pub answer_formed : Answer → Bool
answer_formed a = is_status a.status && not (ltb most_data (length a.body)) && not (is_error a.status && ltb 0 (length a.body))

-- "a writer looks at 4 before 3"; "The buffer lent for an answer holds at least 132 bytes"
unfoldable pub answer_refusal : Answer → List ℕ → ℕ
answer_refusal a buffer = cond (not (answer_formed a)) form_refused (cond (ltb (length buffer) answer_room) room_refused taken)

-- how many bytes are written
unfoldable pub answer_written : Answer → List ℕ → ℕ
answer_written a buffer = cond (eqb (answer_refusal a buffer) taken) (length (answer_on_wire a)) 0

-- "Bytes of it behind the answer keep their values"; refused, all do
unfoldable pub answer_buffer : Answer → List ℕ → List ℕ
answer_buffer a buffer = cond (eqb (answer_refusal a buffer) taken) (sets buffer 0 (answer_on_wire a)) buffer
