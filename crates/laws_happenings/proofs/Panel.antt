-- The panel (2026-06) among what happens to a gate: it touches the recorder alone, and anew only where it is accepted.
use mathlib.Core.Path.{◌≡◌, refl, sym, ap, ◌∙◌}
use mathlib.Core.Bool.{true, false, not}
use mathlib.Core.List.{List}
use Prim.Native.Nat.{ℕ}
use borrow.Author.Tests.{eqb-true, not-true, not-false}
use lib.Dec.{eqb}
use Rattle.document.specs.Numbers.{done}
use Rattle.document.specs.Plan.{Plan}
use Rattle.document.specs.Run.{started}
use Rattle.document.specs.Recorder.{is_running, recorder_prepared, recorder_started, ticked as tickedRecorder}
use Rattle.document.specs.Recorder.Recorder.{planned}
use Rattle.document.specs.Gate.{Gate, with_recorder}
use Rattle.document.specs.Refusals.{first_of, recorder_lines}
use Rattle.document.specs.Panel.{prepare_lines, panel_prepares, panel_starts}
use Rattle.document.proofs.Cases.{split, neither, both}
use Rattle.document_outcomes.proofs.Firsts.{none_applies}
use Rattle.document_outcomes.proofs.Recording.{started_same, begun}
use Rattle.laws_happenings.specs.Asides.{RecorderStep, recorder_after, is_ticked, prepares_anew, starts_anew, is_anew}
use Rattle.laws_happenings.specs.Asides.RecorderStep.{stays, ticked, prepared, started as starting}

-- ---- the recorder alone

pub prepare_touches : (g : Gate) (setup : List ℕ) → (panel_prepares g setup).gate ≡ with_recorder g (panel_prepares g setup).gate.recorder
unfolding panel_prepares
prepare_touches g setup = split (eqb (first_of (prepare_lines g setup)) done) (λ none. rw none refl) (λ some. rw some refl)

pub start_touches : (g : Gate) → (panel_starts g).gate ≡ with_recorder g (panel_starts g).gate.recorder
unfolding panel_starts
start_touches g = split (eqb (first_of (recorder_lines g)) done) (λ none. rw none refl) (λ some. rw some refl)

-- ---- a preparing

pub prepare_refused : (g : Gate) (setup : List ℕ) → prepares_anew g setup ≡ false → (panel_prepares g setup).gate ≡ g
unfolding panel_prepares
prepare_refused g setup some = rw some refl

pub prepare_anew : (g : Gate) (setup : List ℕ) → prepares_anew g setup ≡ true → (panel_prepares g setup).gate.recorder ≡ recorder_prepared false setup
unfolding panel_prepares
prepare_anew g setup none = rw none refl

-- ---- a start

pub start_passes : (g : Gate) → starts_anew g ≡ false → (panel_starts g).gate ≡ g
unfolding panel_starts
start_passes g quiet =
    split (eqb (first_of (recorder_lines g)) done)
    (λ none.
    let runs = not-false (is_running g.recorder) (rw none at quiet) in
    rw none (ap (with_recorder g) (started_same g.recorder runs)))
    (λ some. rw some refl)

starts_it : (g : Gate) → eqb (first_of (recorder_lines g)) done ≡ true → (panel_starts g).gate.recorder ≡ recorder_started g.recorder
unfolding panel_starts
starts_it g none = rw none refl

-- from here on the recorder's history speaks again
pub start_anew : (g : Gate) → starts_anew g ≡ true → (p : Plan) × ((panel_starts g).gate.recorder ≡ planned p started)
start_anew g start =
    let t = both (eqb (first_of (recorder_lines g)) done) (not (is_running g.recorder)) start in
    let set_up_lem = (none_applies (recorder_lines g) (refl, refl, tt) (eqb-true _ _ t.0)).0 in
    let b = begun g.recorder set_up_lem (not-true (is_running g.recorder) t.1) in
    (b.0, starts_it g t.0 ∙ b.1)

-- ---- neither ticked nor set up or started anew: it is the recorder that it was
pub nothing_new : (o : RecorderStep) (g : Gate) → is_ticked o ≡ false → is_anew o g ≡ false → recorder_after o g ≡ g.recorder
nothing_new stays g no-tick old = refl
nothing_new ticked g no-tick old = neither (sym no-tick)
nothing_new (prepared setup) g no-tick old = ap (λ (q : Gate). q.recorder) (prepare_refused g setup old)
nothing_new starting g no-tick old = ap (λ (q : Gate). q.recorder) (start_passes g old)

-- a tick
pub is_ticked_lem : (o : RecorderStep) (g : Gate) → is_ticked o ≡ true → recorder_after o g ≡ tickedRecorder g.recorder g.memory
is_ticked_lem stays g is = neither is
is_ticked_lem ticked g is = refl
is_ticked_lem (prepared setup) g is = neither is
is_ticked_lem starting g is = neither is
