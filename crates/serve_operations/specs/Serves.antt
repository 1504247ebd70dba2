-- A service whose message has a right sum and length: what it is lent, and what it leaves.
use Rattle.std.specs.Prelude.{◌≡◌, true, List, ℕ, ◌≤◌, length}
use Rattle.document.specs.Numbers.{answer_room}
use Rattle.document.specs.Areas.{memory_end}
use Rattle.document.specs.Commands.{served}
use Rattle.document.specs.declared.Service.{Service}
use Rattle.scope_state.specs.State as scope
use Rattle.serve_fields.specs.Framed.{Framed}
use Rattle.state_parts.specs.State.{gate_of}
use Rattle.state_byte.specs.After.{instruments_after}
use Rattle.state_block.specs.Places.{body_place, scope_place, state_length}
use Rattle.state_block.specs.Layout.{data_to, decoded_scope, decoded_instruments}
use Rattle.serve_recorder.specs.Operates.{Operates}

-- the message's data stand in the block, up to a place of its body; the scope is within its bounds
pub record Lent (service : Service) (to : ℕ) (block memory out : List ℕ) : Type 0 where
  pub framed : Framed service (data_to block to)
  pub least : body_place ≤ to
  pub most : to ≤ scope_place
  pub long : state_length ≤ length block
  pub scope_sound : scope.sound (decoded_scope block) ≡ true
  pub memory_whole : length memory ≡ memory_end
  pub room : answer_room ≤ length out

abbrev pub Serves : Service → ℕ → List ℕ → List ℕ → List ℕ → ℕ → List ℕ → List ℕ → List ℕ → Type 0
Serves service to block memory out written sent after left =
    Operates (served (gate_of (decoded_instruments block) memory) service (data_to block to))
    (instruments_after service.operation (decoded_instruments block) service (data_to block to)) block out written sent after left
