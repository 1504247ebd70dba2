-- A setup that is not refused makes a plan that fits, so that every theorem here holds of it.
use mathlib.Core.Path.{◌≡◌}
use mathlib.Core.Bool.{Bool, true, false, not, ◌&&◌, ◌||◌}
use mathlib.Core.List.{List, [], ◌∷◌}
use Prim.Native.Nat.{ℕ, ◌*◌}
use native.Mathlib.Omega.{arith}
use lib.Dec.{eqb, ltb}
use borrow.Author.Tests.{eqb-false, ltb-false, not-false}
use Rattle.document.specs.Areas.{may_be_recorded}
use Rattle.document.specs.Numbers.{is_in}
use Rattle.document.specs.Variables.{count_in, any_size_zero, count_wrong, all_may, set_size}
use Rattle.document.specs.Plan.{plan_in, variables_part, recorded_in, samples_field, looks_at_trigger, trigger_in, trigger_address_field, trigger_size_field, recorder_size_wrong, recorder_range_wrong}
use Rattle.recorder_history.specs.History.{PlanFits}
use Rattle.document.proofs.Cases.{split, none_of}

module _ (ex : Bool) (body : List ℕ) where
  trigger_fits : looks_at_trigger body && not (may_be_recorded (trigger_address_field ex body) (trigger_size_field ex body)) ≡ false
      → may_be_recorded (trigger_in ex body).address (trigger_in ex body).size ≡ true
  trigger_fits e =
      split (looks_at_trigger body)
      (λ t. rw t (not-false (may_be_recorded (trigger_address_field ex body) (trigger_size_field ex body)) (rw t at e)))
      (λ f. rw f)

  pub accepted_fits : recorder_size_wrong ex body ≡ false → recorder_range_wrong ex body ≡ false → PlanFits (plan_in ex body)
  unfolding plan_in
  accepted_fits s r =
      let sizes = any_size_zero (recorded_in ex body) || count_wrong (count_in (variables_part ex body)) in
      let samples = eqb (samples_field body) 0 in
      let room = ltb 4096 (samples_field body * set_size (recorded_in ex body)) in
      let size = looks_at_trigger body && not (is_in (trigger_size_field ex body) (1 ∷ 2 ∷ 4 ∷ [])) in
      let up_to = none_of (sizes || samples) room (none_of (sizes || samples || room) size s).0 in
      let n =
      none_of (not (all_may may_be_recorded (recorded_in ex body)))
      (looks_at_trigger body && not (may_be_recorded (trigger_address_field ex body) (trigger_size_field ex body))) r in
      record {
        samples = omega (arith, eqb-false (samples_field body) 0 (none_of sizes samples up_to.0).1);
        room = ltb-false 4096 (samples_field body * set_size (recorded_in ex body)) up_to.1;
        variables = not-false (all_may may_be_recorded (recorded_in ex body)) n.0;
        trigger = trigger_fits n.1;
      }
