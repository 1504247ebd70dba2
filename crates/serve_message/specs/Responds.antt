-- A whole message: what it is lent, and what it leaves.
use Rattle.std.specs.Prelude.{◌≡◌, true, List, ℕ, ◌≤◌, length}
use Rattle.document.specs.Numbers.{answer_room}
use Rattle.document.specs.Areas.{memory_end}
use Rattle.document.specs.Message.{length_fits}
use Rattle.scope_state.specs.State as scope
use Rattle.state_parts.specs.State.{gate_of}
use Rattle.state_byte.specs.AnsweredHeld.{answered_held, instruments_held}
use Rattle.state_block.specs.Places.{state_length}
use Rattle.state_block.specs.Layout.{decoded_body, decoded_scope, decoded_instruments}
use Rattle.serve_recorder.specs.Operates.{Operates}
use Rattle.serve_message.specs.declared.Whole.{Whole}
use Rattle.serve_message.specs.Held.{held_of}

-- the message has the length that its command gives; the scope is within its bounds
pub record Lent (whole : Whole) (block memory out : List ℕ) : Type 0 where
  pub fits : length_fits whole.command whole.length ≡ true
  pub long : state_length ≤ length block
  pub scope_sound : scope.sound (decoded_scope block) ≡ true
  pub memory_whole : length memory ≡ memory_end
  pub room : answer_room ≤ length out

abbrev pub Responds : Whole → List ℕ → List ℕ → List ℕ → ℕ → List ℕ → List ℕ → List ℕ → Type 0
Responds whole block memory out written sent after left =
    Operates (answered_held (gate_of (decoded_instruments block) memory) (held_of whole (decoded_body block)))
    (instruments_held (decoded_instruments block) (held_of whole (decoded_body block))) block out written sent after left
