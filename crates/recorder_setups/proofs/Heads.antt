-- The fields of a setup's data part, as the plan is read from it.
use mathlib.Core.Path.{◌≡◌, sym, ap, ◌∙◌}
use mathlib.Core.Bool.{Bool, cond, not}
use mathlib.Core.List.{List}
use Prim.Native.Nat.{ℕ, ◌<◌, ◌≤◌, min}
use native.Mathlib.Omega.{arith}
use lib.Dec.{leb}
use lib.ListN.{take, drop, length-take}
use lib.Seq.{take-take, take_all}
use borrow.Author.Tests.{eq-eqb, ne_eqb, leb-true, leb-false}
use Rattle.document.specs.Areas.{bytes_at}
use Rattle.document.proofs.Cases.{split}
use Rattle.document.specs.Values.{number}
use Rattle.document.specs.Plan.{Trigger, Plan, mode_field, trigger_address_field, trigger_size_field, sign_field, threshold_field, no_trigger, trigger_in}
use Rattle.variables_list.specs.declared.Variables.{Variables}
use Rattle.recorder_plans.specs.declared.plan.Plan.{Plan as PlanState}
use Rattle.recorder_plans.specs.State.{plan_kept}

-- ---- "only the first 'trigger size' bytes count"

module _ (body : List ℕ) (at size : ℕ) where
  pub threshold_short : number (bytes_at body at (min size 4)) ≡ number (take size (bytes_at body at 4))
  threshold_short =
      split (leb size 4)
      (λ t. let few : size ≤ 4 = leb-true size 4 t in
      let all : min size 4 ≡ size = omega (arith, few) in
      rw all (ap number (sym (take-take size 4 (drop at body) few))))
      (λ f. let many : 4 < size = leb-false size 4 f in
      let all : min size 4 ≡ 4 = omega (arith, many) in
      rw all (ap number (sym (take_all size (take 4 (drop at body)) (rw length-take (omega (arith, many)))))))

-- ---- the trigger by the mode

-- every field of a trigger that a data part holds
abbrev pub trigger_fields : Bool → List ℕ → Trigger
trigger_fields ex body =
    record {
      mode = mode_field body;
      address = trigger_address_field ex body;
      size = trigger_size_field ex body;
      sign = sign_field ex body;
      threshold = threshold_field ex body;
    }

module _ (ex : Bool) (body : List ℕ) where
  pub trigger_none : mode_field body ≡ 0 → trigger_in ex body ≡ no_trigger
  trigger_none e = ap (λ (b : Bool). cond (not b) (trigger_fields ex body) no_trigger) (eq-eqb (mode_field body) 0 e)

  pub trigger_some : (mode_field body ≡ 0 → ⊥) → trigger_in ex body ≡ trigger_fields ex body
  trigger_some n = ap (λ (b : Bool). cond (not b) (trigger_fields ex body) no_trigger) (ne_eqb (mode_field body) 0 n)

-- a plan is kept once each number is the plan's
pub plan_kept_lem : (p : Plan) (t : Trigger) (v : Variables) (samples post divider mode size sign address threshold : ℕ)
    → samples ≡ p.samples → post ≡ p.post_trigger → divider ≡ p.divider → p.trigger ≡ t
    → mode ≡ t.mode → size ≡ t.size → sign ≡ t.sign → address ≡ t.address → threshold ≡ t.threshold
    → ◌≡◌ {A = PlanState}
    (record {
      samples = samples;
      post_trigger = post;
      divider = divider;
      mode = mode;
      size = size;
      sign = sign;
      address = address;
      threshold = threshold;
      variables = v;
    })
    (plan_kept p v)
plan_kept_lem p t v samples post divider mode size sign address threshold es ep ed et em ez eg ea eh =
    let of : (f : Trigger → ℕ) (x : ℕ) → x ≡ f t → x ≡ f p.trigger = λ f x e. e ∙ ap f (sym et) in
    λ i.
    record {
      samples = es i;
      post_trigger = ep i;
      divider = ed i;
      mode = of (λ (q : Trigger). q.mode) mode em i;
      size = of (λ (q : Trigger). q.size) size ez i;
      sign = of (λ (q : Trigger). q.sign) sign eg i;
      address = of (λ (q : Trigger). q.address) address ea i;
      threshold = of (λ (q : Trigger). q.threshold) threshold eh i;
      variables = v;
    }
