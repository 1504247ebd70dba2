-- What a message does to the recorder: an accepted start begins, an accepted stop stops, and every other message leaves it.
use mathlib.Core.Path.{◌≡◌, refl, sym, ap, ◌∙◌}
use mathlib.Core.Bool.{true, false}
use mathlib.Core.List.{List}
use Prim.Native.Nat.{ℕ}
use borrow.Author.Tests.{eqb-true, not-true, not-false}
use lib.Dec.{eqb}
use Rattle.document.specs.Numbers.{done}
use Rattle.document.specs.Message.{Message}
use Rattle.document.specs.Services.{service_of}
use Rattle.document.specs.Plan.{Plan, plan_in}
use Rattle.document.specs.Run.{Run, started, stopped}
use Rattle.document.specs.Recorder.{Recorder, recorder_absent, is_running, recorder_started, recorder_halted}
use Rattle.document.specs.Recorder.Recorder.{absent, planned}
use Rattle.document.specs.Gate.{Gate}
use Rattle.document.specs.Refusals.{refusal}
use Rattle.document.specs.Commands.{answered}
use Rattle.document.specs.declared.Service.{Service}
use Rattle.document.proofs.Cases.{split, neither, both}
use Rattle.document_outcomes.specs.Changes.{Change, change_of, changed, Accepted}
use Rattle.document_outcomes.specs.Changes.Change.{nothing, store, masked_store, scope_set_up, recorder_prepare_and_start, recorder_start, recorder_stop, command_sent}
use Rattle.document_outcomes.specs.Starts.{begins, halts, is_start, is_stop, Begins}
use Rattle.document_outcomes.proofs.Answered.{accepted_gate, accepted, refused_gate}

-- "running answers 0x01": it goes on as it was
pub started_same : (r : Recorder) → is_running r ≡ true → recorder_started r ≡ r
started_same absent runs = neither runs
started_same (planned p r) runs = rw runs refl

pub begun : (r : Recorder) → recorder_absent r ≡ false → is_running r ≡ false → (p : Plan) × (recorder_started r ≡ planned p started)
begun absent there still = neither (sym there)
begun (planned p r) there still = (p, rw still refl)

-- ---- by what is changed

module _ (g : Gate) (s : Service) (body : List ℕ) where
  passes : (c : Change) → begins c (is_running g.recorder) ≡ false → halts c ≡ false → (changed c g s body).recorder ≡ g.recorder
  passes nothing no_start no_stop = refl
  passes store no_start no_stop = refl
  passes masked_store no_start no_stop = refl
  passes scope_set_up no_start no_stop = refl
  passes recorder_prepare_and_start no_start no_stop = neither (sym no_start)
  passes recorder_start no_start no_stop = started_same g.recorder (not-false (is_running g.recorder) no_start)
  passes recorder_stop no_start no_stop = neither (sym no_stop)
  passes command_sent no_start no_stop = refl

  stopping : (c : Change) → halts c ≡ true → changed c g s body ≡ changed recorder_stop g s body
  stopping nothing stop = neither stop
  stopping store stop = neither stop
  stopping masked_store stop = neither stop
  stopping scope_set_up stop = neither stop
  stopping recorder_prepare_and_start stop = neither stop
  stopping recorder_start stop = neither stop
  stopping recorder_stop stop = refl
  stopping command_sent stop = neither stop

  beginning : (c : Change) → Accepted c g s body → begins c (is_running g.recorder) ≡ true
      → (p : Plan) × ((changed c g s body).recorder ≡ planned p started)
  beginning nothing there start = neither start
  beginning store there start = neither start
  beginning masked_store there start = neither start
  beginning scope_set_up there start = neither start
  beginning recorder_prepare_and_start there start = (plan_in s.ex body, refl)
  beginning recorder_start there start = begun g.recorder there (not-true (is_running g.recorder) start)
  beginning recorder_stop there start = neither start
  beginning command_sent there start = neither start

-- ---- of a message

module _ (g : Gate) (m : Message) where
  abbrev service : Service
  service = service_of m.command

  abbrev change : Change
  change = change_of service.operation

  pub start_begins : is_start g m ≡ true → Begins g m
  start_begins start =
      let t = both (eqb (refusal g m) done) (begins change (is_running g.recorder)) start in
      let none = eqb-true (refusal g m) done t.0 in
      let b = beginning g service m.body change (accepted g m none) t.1 in
      record { plan = b.0; recorder = ap (λ (q : Gate). q.recorder) (accepted_gate g m none) ∙ b.1 }

  module _ (p : Plan) (r : Run) (has : g.recorder ≡ planned p r) where
    pub stop_stops : is_stop g m ≡ true → ((answered g m).gate.recorder ≡ planned p (stopped r)) × ((answered g m).gate.memory ≡ g.memory)
    stop_stops stop =
        let t = both (eqb (refusal g m) done) (halts change) stop in
        let gate : (answered g m).gate ≡ changed recorder_stop g service m.body =
        accepted_gate g m (eqb-true (refusal g m) done t.0) ∙ stopping g service m.body change t.1 in
        (ap (λ (q : Gate). q.recorder) gate ∙ ap recorder_halted has, ap (λ (q : Gate). q.memory) gate)

    pub others_pass : is_start g m ≡ false → is_stop g m ≡ false → (answered g m).gate.recorder ≡ planned p r
    others_pass no_start no_stop =
        split (eqb (refusal g m) done)
        (λ none. ap (λ (q : Gate). q.recorder) (accepted_gate g m (eqb-true _ _ none))
        ∙ passes g service m.body change (rw none at no_start) (rw none at no_stop)
        ∙ has)
        (λ some. ap (λ (q : Gate). q.recorder) (refused_gate g m some) ∙ has)
