-- What is wrong with a setup, and the plan that an accepted one leaves.
use Rattle.std.specs.Prelude.{Bool, not, ◌&&◌, ◌||◌, List, [], ◌∷◌, ℕ, ◌*◌, eqb, ltb}
use Rattle.document.specs.Numbers.{is_in}
use Rattle.document.specs.Areas.{may_be_recorded}
use Rattle.document.specs.Plan.{samples_field, trigger_address_field, trigger_size_field, recorded_in, looks_at_trigger, plan_in, recorder_layout_wrong, recorder_size_wrong, recorder_range_wrong}
use Rattle.variables_list.specs.State.{kept}
use Rattle.variables_surveys.specs.declared.Surveyed.{Surveyed}
use Rattle.variables_definitions.specs.Wrong.{first_wrong}
use Rattle.recorder_plans.specs.declared.plan.Plan.{Plan as PlanState}
use Rattle.recorder_plans.specs.State.{plan_kept}

-- "the first that applies in this order"
abbrev pub body_status : Bool → List ℕ → ℕ
body_status ex body =
    first_wrong (recorder_layout_wrong ex body) (recorder_size_wrong ex body) (recorder_range_wrong ex body)

abbrev pub plan_read : Bool → List ℕ → PlanState
plan_read ex body = plan_kept (plan_in ex body) (kept (recorded_in ex body))

-- ---- two lines of the table by what a survey of the variables saw, where their count is right

abbrev pub seen_size_wrong : Bool → List ℕ → Surveyed → Bool
seen_size_wrong ex body seen =
    seen.zero
    || eqb (samples_field body) 0
    || ltb 4096 (samples_field body * seen.size)
    || looks_at_trigger body && not (is_in (trigger_size_field ex body) (1 ∷ 2 ∷ 4 ∷ []))

abbrev pub seen_range_wrong : Bool → List ℕ → Surveyed → Bool
seen_range_wrong ex body seen =
    not seen.within
    || looks_at_trigger body && not (may_be_recorded (trigger_address_field ex body) (trigger_size_field ex body))
