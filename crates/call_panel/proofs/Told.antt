-- What the recorder's structs say is what the document says to the panel, and so is what is left.
use mathlib.Core.Path.{◌≡◌, refl, sym, ap}
use mathlib.Core.Bool.{false}
use mathlib.Core.List.{List}
use Prim.Native.Nat.{ℕ}
use native.Mathlib.Omega.{arith}
use lib.Dec.{ltb}
use lib.ListN.{length}
use Rattle.document.specs.Numbers.{most_data, done, message_too_long}
use Rattle.document.specs.Answer.{Answer}
use Rattle.document.specs.Recorder.{is_running}
use Rattle.document.specs.Gate.{Gate}
use Rattle.document.specs.Commands.{served, prepare}
use Rattle.document.specs.Panel.{prepare_lines, panel_prepares, panel_starts}
use Rattle.document.specs.declared.Operation.TheVariants.{Start}
use Rattle.document.specs.declared.Service.{Service}
use Rattle.document.proofs.Cases.{split}
use Rattle.document_outcomes.specs.Known.{known_as}
use Rattle.document_outcomes.proofs.Firsts.{unless_alone}
use Rattle.recorder_state.specs.declared.state.Recorder.{Recorder as RecorderState}
use Rattle.recorder_state.specs.State.{recorder_of}
use Rattle.recorder_state.specs.Preparing.{prepare_status}
use Rattle.call_panel.specs.Promises.{given_status}

pub given_said : (g : Gate) (setup : List ℕ) → given_status g.recorder setup ≡ (panel_prepares g setup).answer.status
unfolding panel_prepares prepare_status
given_said g setup = ap (λ (a : Answer). a.status) (sym (unless_alone g (prepare_lines g setup) (prepare g false setup) refl))

-- the panel's start says what 0xC1 says
pub start_said : (g : Gate) (s : Service) (body : List ℕ) → served g (known_as Start s) body ≡ panel_starts g
unfolding served panel_starts
start_said g s body = refl

-- accepted, the data part is
pub given_taken : (r : RecorderState) (setup : List ℕ) → given_status (recorder_of r) setup ≡ done
    → prepare_status (is_running (recorder_of r)) false setup ≡ done
given_taken r setup fine =
    split (ltb most_data (length setup))
    (λ long. let e : ◌≡◌ {A = ℕ} message_too_long done = rw long at fine in let z : ⊥ = omega arith in absurd z)
    (λ short. rw short at fine)
