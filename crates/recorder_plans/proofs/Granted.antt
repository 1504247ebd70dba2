-- What the bounds of a plan give, fact by fact; so a sound plan is one that fits.
use mathlib.Core.Path.{◌≡◌}
use mathlib.Core.Bool.{true, not, ◌&&◌}
use mathlib.Core.List.{[], ◌∷◌}
use Prim.Native.Nat.{ℕ, ◌*◌, ◌^◌, ◌<◌, ◌≤◌}
use native.Mathlib.Omega.{arith}
use lib.Dec.{eqb, leb}
use borrow.Author.Tests.{eqb-true, eqb-false, ltb-true, leb-true, not-true}
use Rattle.document.specs.Numbers.{is_in}
use Rattle.document.specs.Areas.{may_be_recorded}
use Rattle.document.specs.Variables.{count_wrong, any_size_zero, all_may, set_size}
use Rattle.variables_list.specs.State.{variables_of}
use Rattle.variables_list.proofs.Wrong.{count_right}
use Rattle.recorder_plans.specs.declared.plan.Plan.{Plan as PlanState}
use Rattle.recorder_plans.specs.State.{plan_of}
use Rattle.recorder_plans.specs.Bounds.{fits, size_sound, trigger_sound, plan_sound}
use Rattle.recorder_history.specs.History.{PlanFits}
use Rattle.document.proofs.Cases.{split, neither, both}

pub record TriggerBounds (mode size sign address threshold : ℕ) : Type 0 where
  pub sized : (mode ≡ 0 → ⊥) → 1 ≤ size
  pub small : size ≤ 4
  pub below : may_be_recorded address size ≡ true
  pub fitting : threshold < 2 ^ (8 * size)

pub one_of_sizes : (size : ℕ) → is_in size (1 ∷ 2 ∷ 4 ∷ []) ≡ true → (1 ≤ size) × (size ≤ 4)
one_of_sizes size e =
    split (eqb size 1)
    (λ t. (omega (arith, eqb-true size 1 t), omega (arith, eqb-true size 1 t)))
    (λ f. split (eqb size 2)
    (λ t. (omega (arith, eqb-true size 2 t), omega (arith, eqb-true size 2 t)))
    (λ g. split (eqb size 4)
    (λ t. (omega (arith, eqb-true size 4 t), omega (arith, eqb-true size 4 t)))
    (λ h. neither (rw (f, g, h) at e))))

pub size_bounds : (mode size : ℕ) → size_sound mode size ≡ true → ((mode ≡ 0 → ⊥) → 1 ≤ size) × (size ≤ 4)
size_bounds mode size e =
    split (eqb mode 0)
    (λ t. let z : size ≡ 0 = eqb-true size 0 (rw t at e) in
    (λ n. absurd (n (eqb-true mode 0 t)), omega arith))
    (λ f. let b = one_of_sizes size (rw f at e) in (λ n. b.0, b.1))

pub trigger_bounds : (mode size sign address threshold : ℕ) → trigger_sound mode size sign address threshold ≡ true
    → TriggerBounds mode size sign address threshold
trigger_bounds mode size sign address threshold e =
    let b4 = both (leb mode 2 && size_sound mode size && leb sign 1 && may_be_recorded address size) (fits size threshold) e in
    let b3 = both (leb mode 2 && size_sound mode size && leb sign 1) (may_be_recorded address size) b4.0 in
    let b2 = both (leb mode 2 && size_sound mode size) (leb sign 1) b3.0 in
    let b1 = both (leb mode 2) (size_sound mode size) b2.0 in
    let s = size_bounds mode size b1.1 in
    record {
      sized = s.0;
      small = s.1;
      below = b3.1;
      fitting = ltb-true threshold (2 ^ (8 * size)) b4.1;
    }

pub record PlanBounds (p : PlanState) : Type 0 where
  pub samples : 1 ≤ p.samples
  pub trigger : TriggerBounds p.mode p.size p.sign p.address p.threshold
  pub count : p.variables.count ≤ 8
  pub variables : all_may may_be_recorded (variables_of p.variables) ≡ true
  pub room : p.samples * set_size (variables_of p.variables) ≤ 4096

pub plan_bounds : (p : PlanState) → plan_sound p ≡ true → PlanBounds p
unfolding plan_sound
plan_bounds p e =
    let v = p.variables in
    let some = not (eqb p.samples 0) in
    let trigger = trigger_sound p.mode p.size p.sign p.address p.threshold in
    let counted = not (count_wrong v.count) in
    let sized = not (any_size_zero (variables_of v)) in
    let below = all_may may_be_recorded (variables_of v) in
    let room = leb (p.samples * set_size (variables_of v)) 4096 in
    let b = both (some && trigger) (counted && sized && below && room) e in
    let s = both some trigger b.0 in
    let r = both (counted && sized && below) room b.1 in
    let n = both (counted && sized) below r.0 in
    let c = count_right v.count (not-true (count_wrong v.count) (both counted sized n.0).0) in
    record {
      samples = omega (arith, eqb-false p.samples 0 (not-true (eqb p.samples 0) s.0));
      trigger = trigger_bounds p.mode p.size p.sign p.address p.threshold s.1;
      count = c.1;
      variables = n.1;
      room = leb-true (p.samples * set_size (variables_of v)) 4096 r.1;
    }

-- every theorem about a plan that fits holds of a sound state's
pub sound_fits : (p : PlanState) → plan_sound p ≡ true → PlanFits (plan_of p)
sound_fits p e =
    let b = plan_bounds p e in
    record { samples = b.samples; room = b.room; variables = b.variables; trigger = b.trigger.below }
