-- The recorder's history of a board: from its start on it goes through the events among what happens, so its buffer holds the
-- last sets of them.
use mathlib.Core.Path.{◌≡◌, ap, ◌∙◌}
use mathlib.Core.List.{List}
use Prim.Native.Nat.{ℕ, min}
use lib.ListN.{length}
use Rattle.document.specs.Areas.{memory_end}
use Rattle.document.specs.Plan.{Plan}
use Rattle.document.specs.Run.{Run as DocumentRun, started, start_index}
use Rattle.document.specs.Recorder.Recorder.{planned}
use Rattle.document.specs.Sets.{sets_taken, read_round}
use Rattle.document.specs.Happenings.{Happening, Since, after_all}
use Rattle.recorder_history.specs.History.{PlanFits, begun, after, memories_left}
use Rattle.recorder_history.proofs.History.{history, next_place}
use Rattle.laws_happenings.specs.Recording.{events, AllUndisturbed}
use Rattle.laws_happenings.proofs.Follows.{unstarted}
use Rattle.demands.specs.Board.{Board, gate_in}
use Rattle.demands.specs.AsDefined.{AsDefined}
use Rattle.demands.specs.Recorded.{Recorded}
use Rattle.demands.proofs.Followed.{followed, recorder_then, memory_then}

module _ (h last : Board) (s : Since) (hs : List Happening) (now : AsDefined h s) (end : AsDefined last (after_all s hs)) (size : length h.memory ≡ memory_end) (p : Plan)
    (fits : PlanFits p) (just : (gate_in h).recorder ≡ planned p started) (quiet : AllUndisturbed s hs) where
  pub recorded : Recorded p last (sets_taken p (memories_left h.memory (events s hs)))
  recorded =
      let calm = unstarted hs s quiet in
      let run : DocumentRun = (after p (begun h.memory) (events s hs)).run in
      let sets : List (List ℕ) = sets_taken p (memories_left h.memory (events s hs)) in
      let leaves = (followed h s now size p started just hs last end calm).leaves quiet in
      record {
        run = run;
        recorder = recorder_then h s now size p started just hs last end calm;
        reading =
            ap (λ (m : List ℕ). read_round p m (start_index run) (min (length sets) p.samples)) (memory_then h s now size p started just hs last end calm)
            ∙ history p h.memory (events s hs) fits size leaves;
        place = next_place p h.memory (events s hs) fits size leaves;
      }
