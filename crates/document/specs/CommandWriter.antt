-- The command writer: what it refuses, and what it leaves in the buffer that it is lent.
use Rattle.std.specs.Prelude.{cond, not, List, ℕ, length, ltb, eqb}
use Rattle.std.proofs.lemmas.List.Edits.{sets}
use Rattle.document.specs.Numbers.{taken, form_refused, room_refused}
use Rattle.document.specs.Message.{summed, well_formed, on_wire}

-- a start byte and the stuffed message with its right sum
abbrev pub command_on_wire : ℕ → List ℕ → List ℕ
command_on_wire c body = on_wire (summed c body)

-- "4 a message that can't be formed (command 0x2B, fast data of another length than the code gives, standard data above
-- 255 ..)"; "a writer looks at 4 before 3"; "The command writer needs just the bytes it writes"
unfoldable pub command_refusal : ℕ → List ℕ → List ℕ → ℕ
command_refusal c body buffer =
    cond (not (well_formed (summed c body))) form_refused
    (cond (ltb (length buffer) (length (command_on_wire c body))) room_refused taken)

-- how many bytes are written
unfoldable pub command_written : ℕ → List ℕ → List ℕ → ℕ
command_written c body buffer = cond (eqb (command_refusal c body buffer) taken) (length (command_on_wire c body)) 0

-- "neither changes others"
unfoldable pub command_buffer : ℕ → List ℕ → List ℕ → List ℕ
command_buffer c body buffer = cond (eqb (command_refusal c body buffer) taken) (sets buffer 0 (command_on_wire c body)) buffer
