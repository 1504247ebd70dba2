-- A block with another part: all else that it holds stays.
use Rattle.std.specs.Prelude.{List, ℕ}
use Rattle.std.proofs.lemmas.List.Edits.{sets}
use Rattle.scope_state.specs.declared.Scope.{Scope}
use Rattle.recorder_state.specs.declared.state.Recorder.{Recorder}
use Rattle.state_parts.specs.State.{with_scope, with_recorder}
use Rattle.state_block.specs.Places.{scope_place}
use Rattle.state_block.specs.Layout.{decoded_instruments, encoded_instruments}

abbrev pub block_with_scope : List ℕ → Scope → List ℕ
block_with_scope block s = sets block scope_place (encoded_instruments (with_scope (decoded_instruments block) s))

abbrev pub block_with_recorder : List ℕ → Recorder → List ℕ
block_with_recorder block r = sets block scope_place (encoded_instruments (with_recorder (decoded_instruments block) r))
