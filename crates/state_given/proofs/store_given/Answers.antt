-- Ready, numbers, variables and run, one behind the other.
use mathlib.Core.Path.{ap, ◌∙◌}
use mathlib.Core.Bool.{false}
use mathlib.Core.List.{List}
use Prim.Native.Nat.{ℕ, ◌≤◌}
use native.Mathlib.Omega.{arith}
use lib.ListN.{length, set, length-drop}
use lib.Seq.{sets}
use Rattle.document.specs.Plan.{variables_part, recorded_in}
use Rattle.document.specs.Variables.{count_in, variables_in, length_given}
use Rattle.variables_list.specs.State.{kept}
use Rattle.variables_list.proofs.Wrong.{count_right}
use Rattle.recorder_plans.specs.declared.plan.Plan.{Plan}
use Rattle.recorder_setups.proofs.SetUps.{Accepted, accepted, tail_part}
use Rattle.recorder_state.specs.Preparing.{prepared_state}
use Rattle.state_block.specs.Layout.{encoded_numbers, encoded_variables, encoded_run}
use Rattle.state_block.specs.Places.{recorder_place, plan_place, recorded_place, run_place}
use Rattle.state_setups.proofs.Joined.{prepared_put}
use Rattle.state_given.proofs.store_given.Goals as goal

pub read_plan-plan-requires : goal.read_plan-plan-requires
read_plan-plan-requires c =
    let facts : Accepted false c.args.setup.now = accepted false c.args.setup.now c.requires.1 in
    omega (arith, facts.right)

pub slice_bounds-store_variables-count : goal.slice_bounds-store_variables-count
slice_bounds-store_variables-count c =
    let facts : Accepted false c.args.setup.now = accepted false c.args.setup.now c.requires.1 in
    omega (arith, facts.right, c.head_width-from.ensures.0)

pub slice_bounds-store_variables-start : goal.slice_bounds-store_variables-start
slice_bounds-store_variables-start c =
    let facts : Accepted false c.args.setup.now = accepted false c.args.setup.now c.requires.1 in
    omega (arith, facts.right, c.head_width-from.ensures.0)

pub store_variables-requires : goal.store_variables-requires
store_variables-requires c =
    let facts : Accepted false (c.args.setup.now) = accepted false (c.args.setup.now) c.requires.1 in
    let few : count_in (variables_part false (c.args.setup.now)) ≤ 8 = (count_right (count_in (variables_part false (c.args.setup.now))) facts.count).1 in
    let whole : length_given false (variables_part false (c.args.setup.now)) ≤ length (variables_part false (c.args.setup.now)) = rw length-drop (omega (arith, facts.right)) in
    let all = tail_part false c.args.setup.now c.head_width-from.result c.head_width-from.ensures.0 in
    (rw all few, rw all whole, omega (arith, c.store_numbers.auto.block, c.requires.0))

pub returns : goal.returns
returns c =
    let block = c.args.block.now in
    c.prepare_run.ensures
    ∙ ap (λ (l : List ℕ). sets l run_place (encoded_run (prepared_state false (c.args.setup.now)).run))
    (c.store_variables.ensures
    ∙ ap (λ (q : List ℕ). sets c.store_numbers.new.block recorded_place (encoded_variables (kept (variables_in false q)))) (tail_part false c.args.setup.now c.head_width-from.result c.head_width-from.ensures.0)
    ∙ ap (λ (l : List ℕ). sets l recorded_place (encoded_variables (kept (recorded_in false (c.args.setup.now)))))
    (c.store_numbers.ensures
    ∙ ap (λ (p : Plan). sets (set block recorder_place 1) plan_place (encoded_numbers p)) c.read_plan-plan.ensures.0))
    ∙ prepared_put block c.requires.0 (λ i. (c.slice_known-1.given i).fits) false (c.args.setup.now)
