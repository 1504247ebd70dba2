-- Application commands (2026-01) along a run of the calls that are linked into a gate.
use Rattle.std.specs.Prelude.{◌≡◌, true, [], ◌∷◌, ◌++◌, ℕ}
use Rattle.document.specs.Numbers.{done}
use Rattle.document.specs.Message.{Message}
use Rattle.document.specs.Answer.{Answer, answer_on_wire}
use Rattle.document_outcomes.specs.Sending.{unrefused_so_far}
use Rattle.demands.specs.Board.{Board, gate_in}

-- this was answered, and the gate is as it was
pub record OnlySaid (a : Answer) (h next : Board) : Type 0 where
  pub answers : next.answers ≡ h.answers ++ answer_on_wire a
  pub gate : gate_in next ≡ gate_in h

-- "then the result": a message that is 0xC6, and not refused with 0x82 or 0x83, gets it
abbrev pub TellsResult : ℕ → Message → Board → Board → Type 0
TellsResult result m h next =
    m.command ≡ 0xC6 → unrefused_so_far m ≡ true → OnlySaid (record { status = done; body = result ∷ [] }) h next
