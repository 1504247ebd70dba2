-- What is left in the block: another application command, all else as it was.
use Rattle.std.specs.Prelude.{◌≡◌, List, ℕ, length}
use Rattle.std.proofs.lemmas.List.Edits.{sets}
use Rattle.document.specs.Application.{new_command, collect_buffer}
use Rattle.application_state.specs.State.{Command, application_of, collected_command}
use Rattle.state_parts.specs.State.{with_application}
use Rattle.state_block.specs.Places.{scope_place}
use Rattle.state_block.specs.Layout.{decoded_application, encoded_instruments, decoded_instruments}

abbrev pub Stored : List ℕ → Command → List ℕ → Type 0
Stored block c after =
    after ≡ sets block scope_place (encoded_instruments (with_application (decoded_instruments block) c))

-- "collects it once into 64 lent bytes"
pub record Collects (block buffer : List ℕ) (r : ℕ) (after told : List ℕ) : Type 0 where
  pub result : r ≡ length (new_command (application_of (decoded_application block)))
  pub state : Stored block (collected_command (decoded_application block)) after
  pub buffer_told : told ≡ collect_buffer (application_of (decoded_application block)) buffer
