-- What is held of a message, by its sum and its length.
use mathlib.Core.Path.{◌≡◌, subst}
use mathlib.Core.List.{List, []}
use Prim.Native.Nat.{ℕ, ◌<◌, ◌≤◌}
use borrow.Author.Tests.{eq-eqb, ne_eqb, lt-ltb, le-ltb}
use Rattle.document.specs.Numbers.{most_data, sum_wrong, message_too_long}
use Rattle.document.specs.Services.{service_of}
use Rattle.document.specs.Gate.{Gate, says}
use Rattle.document.specs.Commands.{served}
use Rattle.document.specs.declared.Service.{Service}
use Rattle.line_receiver.specs.Report.{HeldMessage}
use Rattle.state_parts.specs.State.{Instruments}
use Rattle.state_byte.specs.After.{instruments_after}
use Rattle.state_byte.specs.AnsweredHeld.{answered_held, instruments_held}
use Rattle.serve_recorder.specs.Operates.{Operates}

module _ (g : Gate) (i : Instruments) (h : HeldMessage) {block out : List ℕ} {n : ℕ} {sent after left : List ℕ} where
  pub wrong_sum : (h.sum ≡ 0 → ⊥) → Operates (says g sum_wrong []) i block out n sent after left → Operates (answered_held g h) (instruments_held i h) block out n sent after left
  unfolding answered_held instruments_held
  wrong_sum wrong done = rw (ne_eqb h.sum 0 wrong) done

  pub too_long : h.sum ≡ 0 → most_data < h.length → Operates (says g message_too_long []) i block out n sent after left
      → Operates (answered_held g h) (instruments_held i h) block out n sent after left
  unfolding answered_held instruments_held
  too_long right long done = rw (eq-eqb h.sum 0 right, lt-ltb most_data h.length long) done

  -- the service as it was looked up, over the data as they were handed on
  pub carried : h.sum ≡ 0 → h.length ≤ most_data → (s : Service) (body : List ℕ) → s ≡ service_of h.command → body ≡ h.kept
      → Operates (served g s body) (instruments_after s.operation i s body) block out n sent after left
      → Operates (answered_held g h) (instruments_held i h) block out n sent after left
  unfolding answered_held instruments_held
  carried right short s body is same done =
      rw (eq-eqb h.sum 0 right, le-ltb most_data h.length short)
      (subst (λ (l : List ℕ). Operates (served g (service_of h.command) l) (instruments_after (service_of h.command).operation i (service_of h.command) l) block out n sent after left) same
      (subst (λ (t : Service). Operates (served g t body) (instruments_after t.operation i t body) block out n sent after left) is done))
