-- The recorder that a call leaves in the block means the document's, and is within its bounds.
use mathlib.Core.Path.{◌≡◌, refl, sym, ap, ◌∙◌}
use mathlib.Core.Bool.{false}
use mathlib.Core.List.{List}
use Prim.Native.Nat.{ℕ}
use borrow.Author.Tests.{eqb-true}
use lib.Dec.{eqb}
use Rattle.document.specs.Numbers.{done}
use Rattle.document.specs.Bytes.{AllBytes}
use Rattle.document.specs.Recorder.{Recorder, is_running, recorder_started}
use Rattle.document.specs.Recorder.Recorder.{absent, planned}
use Rattle.document.specs.Gate.{Gate, with_recorder}
use Rattle.document.specs.Panel.{panel_prepares, panel_starts}
use Rattle.document.proofs.Cases.{split}
use Rattle.recorder_state.specs.declared.state.Recorder.{Recorder as RecorderState}
use Rattle.recorder_state.specs.State.{recorder_of}
use Rattle.recorder_state.specs.Calls.{started_state}
use Rattle.recorder_state.specs.Preparing.{prepare_status}
use Rattle.recorder_state.proofs.Answers.{prepared-means}
use Rattle.recorder_state.proofs.Meanings.{started_means}
use Rattle.state_parts.specs.Within.{RecorderWithin}
use Rattle.state_parts.proofs.Keeps.{recorder_prepared_lem}
use Rattle.call_panel.specs.Promises.{given_status, given_next}
use Rattle.call_panel.proofs.Told.{given_taken}

-- refused or not: where nothing is set up, nothing starts
started_gate : (g : Gate) (r : Recorder) → g.recorder ≡ r → (panel_starts g).gate ≡ with_recorder g (recorder_started r)
unfolding panel_starts
started_gate g absent has = rw has refl
started_gate g (planned p run) has = rw has refl

module _ (g : Gate) (r : RecorderState) (is : g.recorder ≡ recorder_of r) where
  -- the gate that the panel's preparing leaves has the recorder that the block has then
  pub prepare_means : (setup : List ℕ) → (panel_prepares g setup).gate ≡ with_recorder g (recorder_of (given_next r setup))
  unfolding panel_prepares prepare_status
  prepare_means setup =
      split (eqb (given_status (recorder_of r) setup) done)
      (λ none. rw (is, none) (ap (with_recorder g) (sym (prepared-means (is_running (recorder_of r)) false setup (given_taken r setup (eqb-true _ _ none))))))
      (λ some. rw (is, some) refl)

  pub start_means : (panel_starts g).gate ≡ with_recorder g (recorder_of (started_state r))
  start_means = started_gate g (recorder_of r) is ∙ ap (with_recorder g) (sym (started_means r))

pub given_within : (r : RecorderState) (setup : List ℕ) → AllBytes setup → RecorderWithin r → RecorderWithin (given_next r setup)
given_within r setup all w =
    split (eqb (given_status (recorder_of r) setup) done)
    (λ none. rw none (recorder_prepared_lem false setup all (is_running (recorder_of r)) (given_taken r setup (eqb-true _ _ none))))
    (λ some. rw some w)
