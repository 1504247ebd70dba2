-- The parts of a recorder, stored one behind the other, are the recorder.
use mathlib.Core.Path.{◌≡◌, refl, sym, ◌∙◌}
use mathlib.Core.Bool.{Bool}
use mathlib.Core.List.{List, ◌++◌}
use Prim.Native.Nat.{ℕ, ◌<◌, ◌≤◌}
use lib.ListN.{length, get_or, set}
use lib.Seq.{sets, length-sets}
use Rattle.document.specs.Plan.{recorded_in}
use Rattle.variables_list.specs.State.{no_variables, kept}
use Rattle.recorder_setups.specs.Setup.{plan_read}
use Rattle.recorder_state.specs.declared.state.Recorder.{Recorder}
use Rattle.recorder_state.specs.Preparing.{prepared_state}
use Rattle.state_parts.specs.State.{with_recorder}
use Rattle.state_block.specs.Layout.{decoded_instruments, encoded_variables, encoded_numbers, encoded_run, encoded_recorder, encoded_instruments}
use Rattle.state_block.specs.Places.{variables_length, numbers_length, scope_place, recorder_place, plan_place, recorded_place, run_place, state_length}
use Rattle.state_block.proofs.Parts.{variables_length_lem, recorder_length_lem, sets_two}
use Rattle.state_block.proofs.Stored.{recorder_stored}

recorder_put : (l : List ℕ) (r : Recorder) → length r.plan.variables.list ≡ 8
    → sets (sets (sets (set l recorder_place r.ready) plan_place (encoded_numbers r.plan)) recorded_place (encoded_variables r.plan.variables)) run_place (encoded_run r.run)
    ≡ sets l recorder_place (encoded_recorder r)
unfolding encoded_recorder
recorder_put l r e =
    sym
    (sets_two (set l recorder_place r.ready) (encoded_numbers r.plan) (encoded_variables r.plan.variables ++ encoded_run r.run) plan_place numbers_length recorded_place refl refl
    ∙ sets_two (sets (set l recorder_place r.ready) plan_place (encoded_numbers r.plan)) (encoded_variables r.plan.variables) (encoded_run r.run) recorded_place variables_length run_place (variables_length_lem r.plan.variables e) refl)

-- ready, numbers, variables and run of a prepared recorder; what stands around it is there already
pub prepared_put : (block : List ℕ) → state_length ≤ length block → ((i : ℕ) → get_or block i 0 < 256) → (ex : Bool) (body : List ℕ)
    → sets (sets (sets (set block recorder_place 1) plan_place (encoded_numbers (plan_read ex body))) recorded_place (encoded_variables (kept (recorded_in ex body)))) run_place (encoded_run (prepared_state ex body).run)
    ≡ sets block scope_place (encoded_instruments (with_recorder (decoded_instruments block) (prepared_state ex body)))
prepared_put block long small ex body =
    let r = prepared_state ex body in
    let eight : length r.plan.variables.list ≡ 8 = length-sets no_variables 0 (recorded_in ex body) in
    recorder_put block r eight ∙ recorder_stored block long small r (recorder_length_lem r eight)
