-- A set that is due: the recorded definitions in the block are the plan's variables, and its place lies in the buffer.
use mathlib.Core.Path.{◌≡◌, sym, ap, ◌∙◌}
use mathlib.Core.Bool.{true}
use mathlib.Core.List.{List}
use Prim.Native.Nat.{ℕ, ◌+◌, ◌*◌, ◌≤◌}
use native.Mathlib.Omega.{arith}
use lib.ListN.{get_or, take, drop}
use Rattle.document.specs.Areas.{buffer_begin, memory_end, may_be_recorded}
use Rattle.document.specs.Variables.{definitions_in, all_may, set_size}
use Rattle.recorder_history.proofs.Places.{place_room}
use Rattle.recorder_plans.specs.State.{plan_of}
use Rattle.recorder_plans.specs.Bounds.{plan_sound}
use Rattle.recorder_plans.proofs.Granted.{PlanBounds, plan_bounds}
use Rattle.recorder_runs.specs.declared.run.Run.{Run}
use Rattle.recorder_runs.specs.Bounds.{run_sound}
use Rattle.recorder_runs.proofs.Granted.{run_bounds}
use Rattle.state_block.specs.Places.{recorded_place}
use Rattle.state_block.specs.Layout.{decoded_definitions, decoded_plan}
use Rattle.state_block.proofs.Definitions.{definitions_take}

module _ (block : List ℕ) (count : ℕ) (e : count ≡ get_or block recorded_place 0) (s : plan_sound (decoded_plan block) ≡ true) where
  bounds : PlanBounds (decoded_plan block)
  bounds = plan_bounds (decoded_plan block) s

  pub few : count ≤ 8
  few = omega (arith, e, bounds.count)

  pub recorded : definitions_in true count (drop (recorded_place + 1) block) ≡ (plan_of (decoded_plan block)).variables
  unfolding decoded_definitions
  recorded = sym (definitions_take count 8 (drop (recorded_place + 1) block) few) ∙ ap (λ (k : ℕ). take k (definitions_in true 8 (drop (recorded_place + 1) block))) e

  pub may_be_recorded_lem : all_may may_be_recorded (definitions_in true count (drop (recorded_place + 1) block)) ≡ true
  may_be_recorded_lem = ap (all_may may_be_recorded) recorded ∙ bounds.variables

  pub room : (run : Run) → run_sound (decoded_plan block) run ≡ true
      → buffer_begin + run.place * set_size (definitions_in true count (drop (recorded_place + 1) block)) + set_size (definitions_in true count (drop (recorded_place + 1) block)) ≤ memory_end
  room run r =
      rw recorded
      (omega (arith, place_room run.place (decoded_plan block).samples (set_size (plan_of (decoded_plan block)).variables) (run_bounds (decoded_plan block) run r).place, bounds.room))
