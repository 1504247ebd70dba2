-- What reset and check promise: the result and every lent byte, refused or not; and the numbers of the calls that take a block.
use Rattle.std.specs.Prelude.{◌≡◌, Bool, cond, ◌&&◌, List, ℕ, leb, length}
use Rattle.std.proofs.lemmas.List.Edits.{sets}
use Rattle.document.specs.Numbers.{taken, state_refused}
use Rattle.document.specs.Calls.{byte_refusal, tick_refusal}
use Rattle.document.specs.Panel.{panel_refusal}
use Rattle.document.specs.Application.{collect_refusal, report_refusal}
use Rattle.application_state.specs.State.{application_of}
use Rattle.state_parts.specs.Bounds.{sound, fresh}
use Rattle.state_block.specs.Places.{state_length}
use Rattle.state_block.specs.Layout.{decoded_application, decoded, encoded}

-- "1 a state outside the bounds listed in docs/": every block is a state, but one that is too short
abbrev pub block_sound : List ℕ → Bool
block_sound block = leb state_length (length block) && sound (decoded block)

-- a block that is longer is taken, its further bytes stay
pub record ResetDone (block : List ℕ) (r : ℕ) (after : List ℕ) : Type 0 where
  pub result : r ≡ cond (leb state_length (length block)) taken state_refused
  pub state : after ≡ cond (leb state_length (length block)) (sets block 0 (encoded fresh)) block

pub record Checked (block : List ℕ) (r : ℕ) : Type 0 where
  pub result : r ≡ cond (block_sound block) taken state_refused

-- the numbers of the calls
abbrev pub panel_number : List ℕ → ℕ
panel_number block = panel_refusal (block_sound block)

abbrev pub byte_number : List ℕ → List ℕ → List ℕ → ℕ
byte_number block memory buffer = byte_refusal (block_sound block) memory buffer

abbrev pub tick_number : List ℕ → List ℕ → ℕ
tick_number block memory = tick_refusal (block_sound block) memory

abbrev pub collect_number : List ℕ → List ℕ → ℕ
collect_number block buffer = collect_refusal (block_sound block) buffer

abbrev pub report_number : List ℕ → ℕ → ℕ
report_number block result = report_refusal (block_sound block) (application_of (decoded_application block)) result
