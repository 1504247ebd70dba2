-- Ready, numbers, variables and run, one behind the other. What is stored in front of the variables leaves the data as they were.
use mathlib.Core.Path.{◌≡◌, ap, ◌∙◌}
use mathlib.Core.List.{List, ◌++◌}
use Prim.Native.Nat.{ℕ, ◌+◌, ◌≤◌}
use native.Mathlib.Omega.{arith}
use lib.ListN.{length, set, take, length-drop}
use lib.Seq.{sets, take-set-le}
use Rattle.document.specs.Plan.{variables_part, recorded_in}
use Rattle.document.specs.Variables.{count_in, variables_in, length_given}
use Rattle.variables_list.specs.State.{kept}
use Rattle.variables_list.proofs.Wrong.{count_right}
use Rattle.recorder_plans.specs.declared.plan.Plan.{Plan}
use Rattle.recorder_setups.proofs.SetUps.{Accepted, accepted}
use Rattle.recorder_state.specs.Preparing.{prepared_state}
use Rattle.memory_ranges.proofs.Stored.{take_sets}
use Rattle.bytes_fields.proofs.Ranges.{split_stored}
use Rattle.state_block.specs.Layout.{data_to, encoded_numbers, encoded_variables, encoded_run}
use Rattle.state_block.specs.Places.{body_place, scope_place, recorder_place, plan_place, recorded_place, run_place}
use Rattle.state_setups.proofs.Places.{data_short, behind_head}
use Rattle.state_setups.proofs.Joined.{prepared_put}
use Rattle.state_setups.proofs.recording.store_prepared.Goals as goal

-- what the numbers leave in front of the scope
front_kept : (block numbers : List ℕ) → take scope_place (sets (set block recorder_place 1) plan_place numbers) ≡ take scope_place block
front_kept block numbers =
    take_sets numbers (set block recorder_place 1) plan_place scope_place (omega arith) ∙ take-set-le scope_place block recorder_place 1 (omega arith)

pub read_plan-plan-requires : goal.read_plan-plan-requires
read_plan-plan-requires c =
    let facts : Accepted c.args.ex (data_to c.args.block.now c.args.to) = accepted c.args.ex (data_to c.args.block.now c.args.to) c.requires.3 in
    omega (arith, facts.right)

pub store_variables-requires : goal.store_variables-requires
store_variables-requires c =
    let a = c.args in
    let body = data_to a.block.now a.to in
    let halves = c.split_at_mut-front.ensures in
    let facts : Accepted a.ex body = accepted a.ex body c.requires.3 in
    let from = c.head_width-from in
    let few : count_in (variables_part a.ex body) ≤ 8 = (count_right (count_in (variables_part a.ex body)) facts.count).1 in
    let whole : length_given a.ex (variables_part a.ex body) ≤ length (variables_part a.ex body) = rw length-drop (omega (arith, facts.right)) in
    let kept_front = ap (take scope_place) c.store_numbers.ensures ∙ front_kept a.block.now (encoded_numbers c.read_plan-plan.result) in
    let same = behind_head a.block.now a.to a.ex c.store_numbers.new.block c.split_at_mut-front.result.0.now (body_place + from.result) recorded_place halves.front (omega arith) kept_front c.requires.2
    (omega (arith, from.ensures.0)) (omega (arith, from.ensures.0, facts.right, data_short a.block.now a.to, c.requires.1)) in
    rw same (few, whole, omega (arith, halves.back_len, c.store_numbers.auto.block, c.requires.0))

pub returns : goal.returns
returns c =
    let a = c.args in
    let block = a.block.now in
    let body = data_to block a.to in
    let halves = c.split_at_mut-front.ensures in
    let facts : Accepted a.ex body = accepted a.ex body c.requires.3 in
    let from = c.head_width-from in
    let kept_front = ap (take scope_place) c.store_numbers.ensures ∙ front_kept block (encoded_numbers c.read_plan-plan.result) in
    let same = behind_head block a.to a.ex c.store_numbers.new.block c.split_at_mut-front.result.0.now (body_place + from.result) recorded_place halves.front (omega arith) kept_front c.requires.2
    (omega (arith, from.ensures.0)) (omega (arith, from.ensures.0, facts.right, data_short block a.to, c.requires.1)) in
    c.prepare_run.ensures
    ∙ ap (λ (l : List ℕ). sets l run_place (encoded_run (prepared_state a.ex body).run))
    ((λ i. halves.front i ++ c.store_variables.ensures i)
    ∙ (λ i. take recorded_place c.store_numbers.new.block ++ sets (halves.back i) 0 (encoded_variables (kept (variables_in a.ex (same i)))))
    ∙ split_stored recorded_place c.store_numbers.new.block (encoded_variables (kept (recorded_in a.ex body))) (omega (arith, c.store_numbers.auto.block, c.requires.0))
    ∙ ap (λ (l : List ℕ). sets l recorded_place (encoded_variables (kept (recorded_in a.ex body))))
    (c.store_numbers.ensures
    ∙ ap (λ (p : Plan). sets (set block recorder_place 1) plan_place (encoded_numbers p)) c.read_plan-plan.ensures.0))
    ∙ prepared_put block c.requires.0 (λ i. (c.slice_known-1.given i).fits) a.ex body
