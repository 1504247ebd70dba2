-- The recorder of a board from then on, until it is set up or started anew: it goes through the events among what happens.
use mathlib.Core.Path.{◌≡◌, sym, ap, ◌∙◌}
use mathlib.Core.List.{List}
use lib.ListN.{length}
use Rattle.document.specs.Areas.{memory_end}
use Rattle.document.specs.Plan.{Plan}
use Rattle.document.specs.Run.{Run as DocumentRun}
use Rattle.document.specs.Recorder.Recorder.{planned}
use Rattle.document.specs.Gate.{Gate}
use Rattle.document.specs.Happenings.{Happening, Since, after_all}
use Rattle.recorder_history.specs.History as history
use Rattle.laws_happenings.specs.Recording.{events, AllUnstarted, AllUndisturbed}
use Rattle.laws_happenings.proofs.Follows.{Followed, followed_all}
use Rattle.demands.specs.Board.{Board, gate_in}
use Rattle.demands.specs.AsDefined.{AsDefined}

module _ (h : Board) (s : Since) (now : AsDefined h s) (size : length h.memory ≡ memory_end) (p : Plan) (r : DocumentRun) (has : (gate_in h).recorder ≡ planned p r)
    (hs : List Happening) (last : Board) (end : AsDefined last (after_all s hs)) (quiet : AllUnstarted s hs) where
  pub followed : Followed p (AllUndisturbed s hs) (after_all s hs).gate (record { run = r; memory = h.memory }) (events s hs)
  followed =
      let same_memory : s.gate.memory ≡ h.memory = ap (λ (g : Gate). g.memory) (sym now.gate) in
      followed_all p hs s (record { run = r; memory = h.memory })
      (record { recorder = ap (λ (g : Gate). g.recorder) (sym now.gate) ∙ has; memory = same_memory; size = ap length same_memory ∙ size })
      quiet

  pub recorder_then : (gate_in last).recorder ≡ planned p (history.after p (record { run = r; memory = h.memory }) (events s hs)).run
  recorder_then = ap (λ (g : Gate). g.recorder) end.gate ∙ followed.follows.recorder

  pub memory_then : last.memory ≡ (history.after p (record { run = r; memory = h.memory }) (events s hs)).memory
  memory_then = ap (λ (g : Gate). g.memory) end.gate ∙ followed.follows.memory
