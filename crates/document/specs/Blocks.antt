-- A block of bytes at once (2026-05).
use Rattle.std.specs.Prelude.{cond, List, [], ◌∷◌, ◌++◌, ℕ, suc, ◌-◌, ltb, length, drop}
use Rattle.document.specs.Numbers.{answer_room}
use Rattle.document.specs.Answer.{Answer, answer_on_wire}
use Rattle.document.specs.Happenings.{Since, after}
use Rattle.document.specs.Happenings.Happening.{byte}

-- "writes the answers one behind another"
abbrev pub answers_on_wire : List Answer → List ℕ
answers_on_wire [] = []
answers_on_wire (a ∷ others) = answer_on_wire a ++ answers_on_wire others

-- what a byte brings to the wire
abbrev pub brought_by : Since → ℕ → List ℕ
brought_by s b = answers_on_wire (drop (length s.answers) (after s (byte b)).answers)

-- "and reports bytes taken and bytes written"; the bytes that were written stand at the front of the lent buffer
pub record Block : Type 0 where
  pub since : Since
  pub taken : ℕ
  pub written : List ℕ

abbrev pub stops : Since → Block
stops s = record { since = s; taken = 0; written = [] }

abbrev pub behind : List ℕ → Block → Block
behind wire b = record { since = b.since; taken = suc b.taken; written = wire ++ b.written }

-- "It takes bytes while 132 bytes of room are left, and no longer"
abbrev pub block_after : Since → ℕ → List ℕ → Block
block_after s room [] = stops s
block_after s room (b ∷ bs) =
    cond (ltb room answer_room) (stops s)
    (behind (brought_by s b) (block_after (after s (byte b)) (room - length (brought_by s b)) bs))
