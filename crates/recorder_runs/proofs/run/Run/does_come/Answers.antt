-- The first set for itself, a later one beside the set before it.
use mathlib.Core.Path.{◌≡◌, ap}
use mathlib.Core.Bool.{true}
use Prim.Native.Nat.{ℕ, ◌*◌, ◌^◌, ◌<◌}
use native.Mathlib.Omega.{arith}
use Rattle.document.specs.Plan.{Trigger}
use Rattle.recorder_triggers.specs.declared.edges.Trigger.{Trigger as TriggerState}
use Rattle.recorder_triggers.specs.State.{meant, Comparable}
use Rattle.recorder_plans.specs.declared.plan.Plan.{Plan as PlanState}
use Rattle.recorder_plans.specs.State.{trigger_of}
use Rattle.recorder_plans.specs.Bounds.{plan_sound}
use Rattle.recorder_plans.proofs.Granted.{plan_bounds}
use Rattle.recorder_runs.proofs.Granted.{previous_fits, awaits}
use Rattle.recorder_runs.proofs.run.Run.does_come.Goals as goal

-- the trigger of a sound plan
module _ (p : PlanState) (t : TriggerState) (is : meant t ≡ trigger_of p) where
  size : t.size ≡ p.size
  size = ap (λ (x : Trigger). x.size) is

  comparable : plan_sound p ≡ true → Comparable t
  comparable sound =
      let b = (plan_bounds p sound).trigger in
      let mode = ap (λ (x : Trigger). x.mode) is in
      let threshold = ap (λ (x : Trigger). x.threshold) is in
      record { sized = rw (mode, size) b.sized; small = rw size b.small; fitting = rw (threshold, size) b.fitting }

  of_its_size : (value : ℕ) → value < 2 ^ (8 * p.size) → value < 2 ^ (8 * t.size)
  of_its_size value fits = rw size fits

pub is_beyond-requires : goal.is_beyond-requires
is_beyond-requires c =
    let t = c.trigger-trigger in
    (comparable c.args.plan t.result t.ensures c.requires.0.plan, of_its_size c.args.plan t.result t.ensures c.args.value c.requires.0.fits)

pub comes-requires : goal.comes-requires
comes-requires c =
    let t = c.trigger-trigger in
    let p = c.args.plan in
    let r = c.args.self in
    let later : c.args.self.watch ≡ 1 = omega (arith, awaits p.size p.post_trigger r.running r.watch r.value c.requires.0.watch c.requires.1, c.if-self-eq-UNPRIMED.false) in (
      comparable p t.result t.ensures c.requires.0.plan,
      of_its_size p t.result t.ensures r.value (previous_fits p.size p.post_trigger r.running r.watch r.value c.requires.0.watch later),
      of_its_size p t.result t.ensures c.args.value c.requires.0.fits,
    )
