-- The gate's calls, a byte and a tick: with what they refuse, and what a byte leaves in the buffer lent for the answer.
use Rattle.std.specs.Prelude.{Bool, cond, not, List, [], ◌∷◌, ℕ, length, eqb, ltb}
use Rattle.std.proofs.lemmas.List.Edits.{sets}
use Rattle.document.specs.Areas.{memory_end}
use Rattle.document.specs.Numbers.{answer_room, taken, state_refused, memory_refused, room_refused}
use Rattle.document.specs.Answer.{Answer, answer_on_wire}

-- "Lowest number first": a tick knows 1 and 2. `sound` says whether the state is within the bounds of docs/STATE.md
abbrev pub tick_refusal : Bool → List ℕ → ℕ
tick_refusal sound memory = cond (not sound) state_refused (cond (not (eqb (length memory) memory_end)) memory_refused taken)

-- a byte knows 3 besides: "The buffer lent for an answer holds at least 132 bytes"
abbrev pub byte_refusal : Bool → List ℕ → List ℕ → ℕ
byte_refusal sound memory buffer =
    cond (not sound) state_refused
    (cond (not (eqb (length memory) memory_end)) memory_refused (cond (ltb (length buffer) answer_room) room_refused taken))

-- "Bytes of it behind the answer keep their values; without an answer, all do."
abbrev pub answer_buffer_after : List Answer → List ℕ → List ℕ
answer_buffer_after [] buffer = buffer
answer_buffer_after (a ∷ others) buffer = sets buffer 0 (answer_on_wire a)
