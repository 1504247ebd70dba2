-- Request 2026-06: what preparing and starting come to, one after the other and apart.
use mathlib.Core.Path.{◌≡◌, refl}
use mathlib.Core.Bool.{Bool, true, false, cond}
use mathlib.Core.List.{List, []}
use Prim.Native.Nat.{ℕ, ◌≤◌}
use borrow.Author.Tests.{le-ltb}
use lib.Dec.{eqb}
use lib.ListN.{length}
use Rattle.document.specs.Numbers.{most_data, done, recorder_stopped}
use Rattle.document.specs.Plan.{plan_in}
use Rattle.document.specs.Run.{started, ran_tick, memory_after_tick}
use Rattle.document.specs.Recorder.{recorder_prepared, recorder_started, recorder_halted, buffer_answer, ticked, ticked_memory}
use Rattle.document.specs.Recorder.Recorder.{planned}
use Rattle.document.specs.Gate.{Gate, Outcome, says, with_recorder}
use Rattle.document.specs.Services.{service_of}
use Rattle.document.specs.Refusals.{order, first_of, recorder_set_up_lines}
use Rattle.document.specs.Commands.{served, prepare_and_start, status}
use Rattle.document.specs.Panel.{prepare_lines, panel_prepares, panel_starts}
use Rattle.document.proofs.Cases.{split}
use Rattle.document.proofs.Order.{in_order}

-- ---- "Commands 0x09 and 0x0B become the two in a row and answer as today."

module _ (ex : Bool) (body : List ℕ) where
  -- the recorder that the former setup left: its plan, at a start
  pub two_in_a_row : recorder_started (recorder_prepared ex body) ≡ planned (plan_in ex body) started
  two_in_a_row = refl

  -- answer and gate
  pub as_today : (g : Gate) → prepare_and_start g ex body ≡ says (with_recorder g (planned (plan_in ex body) started)) done []
  as_today g = refl

  -- ---- "A recorder prepared and not started since"

  pub prepared_alike : recorder_prepared ex body ≡ recorder_halted (recorder_started (recorder_prepared ex body))
  prepared_alike = refl

  pub prepared_status_lem : (g : Gate) → g.recorder ≡ recorder_prepared ex body → status g ≡ says g recorder_stopped []
  prepared_status_lem g has = rw has refl

  -- "and start index 0 to 0xC4"
  pub prepared_index : (n : ℕ) → buffer_answer n (recorder_prepared ex body) ≡ buffer_answer n (planned (plan_in ex body) started)
  prepared_index n = refl

  pub prepared_still : (memory : List ℕ) → (ticked (recorder_prepared ex body) memory ≡ recorder_prepared ex body) × (ticked_memory (recorder_prepared ex body) memory ≡ memory)
  unfolding ran_tick memory_after_tick
  prepared_still memory = (refl, refl)

-- ---- "the same statuses, in 01's order"

pub prepare_in_order : (g : Gate) (body : List ℕ) → in_order order (prepare_lines g body) ≡ true
prepare_in_order g body = refl

-- ---- the panel and the line

-- what follows a success
abbrev and_then : Outcome → (Gate → Outcome) → Outcome
and_then o next = cond (eqb o.answer.status done) (next o.gate) o

-- a setup over the line is what the panel does in two calls, the second where the first succeeds
pub line_as_panel : (g : Gate) (body : List ℕ) → length body ≤ most_data → served g (service_of 0x09) body ≡ and_then (panel_prepares g body) panel_starts
unfolding served service_of panel_prepares panel_starts
line_as_panel g body short =
    split (eqb (first_of (recorder_set_up_lines g false body)) done)
    (λ none. rw (le-ltb most_data (length body) short, none) refl)
    (λ some. rw (le-ltb most_data (length body) short, some, some) refl)
