-- A setup: what the code sees of it, and that one which nothing refuses leaves a sound plan.
use mathlib.Core.Path.{◌≡◌, refl, sym, ap, ◌∙◌}
use mathlib.Core.Bool.{Bool, true, false, not, ◌&&◌, ◌||◌}
use mathlib.Core.List.{List, [], ◌∷◌}
use Prim.Native.Nat.{ℕ, ◌+◌, ◌-◌, ◌*◌, ◌^◌, ◌<◌, ◌≤◌}
use native.Mathlib.Nat.{add-zero}
use native.Mathlib.Omega.{arith}
use lib.Dec.{eqb, ltb}
use lib.ListN.{length, get_or, take, drop, length-drop}
use lib.Seq.{get_or-drop, take_all}
use borrow.Author.Tests.{eqb-true, eqb-false, ltb-false, lt-ltb, le-leb, not-false}
use Rattle.document.specs.Numbers.{is_in, done}
use Rattle.document.specs.Areas.{recorded_end, may_be_recorded}
use Rattle.document.specs.declared.Variable.{Variable}
use Rattle.document.specs.Variables.{count_in, length_given, count_wrong, any_size_zero, all_may, set_size}
use Rattle.document.specs.Plan.{Trigger, mode_field, samples_field, trigger_address_field, trigger_size_field, sign_field, head_width, variables_part, recorded_in, looks_at_trigger, trigger_in, plan_in, recorder_layout_wrong, recorder_size_wrong, recorder_range_wrong}
use Rattle.variables_list.specs.State.{variables_of, kept}
use Rattle.variables_list.proofs.Wrong.{count_right}
use Rattle.variables_surveys.specs.Survey.{surveyed}
use Rattle.variables_definitions.proofs.Read.{definitions_length_lem, kept_all}
use Rattle.variables_definitions.proofs.First.{none_applies}
use Rattle.recorder_plans.specs.State.{plan_of}
use Rattle.recorder_plans.specs.Bounds.{size_sound, trigger_sound, plan_sound}
use Rattle.recorder_setups.specs.Setup.{seen_range_wrong, body_status, plan_read}
use Rattle.document.proofs.Cases.{split, none_of}
use Rattle.recorder_plans.proofs.Granted.{one_of_sizes}
use Rattle.recorder_setups.proofs.Heads.{trigger_none, trigger_some}

-- ---- what the code sees

-- the rest of a body behind its head is the part with the variables
pub tail_part : (ex : Bool) (body : List ℕ) (head : ℕ) → head ≡ head_width ex → take (length body - head) (drop head body) ≡ variables_part ex body
tail_part ex body head e =
    take_all (length body - head) (drop head body) (rw length-drop (omega arith)) ∙ ap (λ (n : ℕ). drop n body) e

-- and begins with the count
pub count_at : (ex : Bool) (body : List ℕ) (head : ℕ) → head ≡ head_width ex → get_or body head 0 ≡ count_in (variables_part ex body)
count_at ex body head e =
    ap (λ (n : ℕ). get_or body n 0) (e ∙ sym (add-zero (head_width ex))) ∙ sym (get_or-drop (head_width ex) body 0 0)

module _ (ex : Bool) (body : List ℕ) where
  abbrev part : List ℕ
  part = variables_part ex body

  -- the two tests of the size that look at the fields
  abbrev overflows : Bool
  overflows = ltb 4096 (samples_field body * set_size (recorded_in ex body))

  abbrev odd : Bool
  odd = looks_at_trigger body && not (is_in (trigger_size_field ex body) (1 ∷ 2 ∷ 4 ∷ []))

  -- a layout that is right has the length that its count gives
  pub layout_right : recorder_layout_wrong ex body ≡ false → length body ≡ head_width ex + length_given ex part
  layout_right e =
      let given = eqb (length body) (head_width ex + length_given ex part) in
      let sign = looks_at_trigger body && ltb 1 (sign_field ex body) in
      eqb-true _ _
      (not-false given (none_of (not given) (ltb 2 (mode_field body)) (none_of (not given || ltb 2 (mode_field body)) sign e).0).0)

  -- what a survey sees decides the ranges
  pub range_seen : seen_range_wrong ex body (surveyed recorded_end (recorded_in ex body)) ≡ recorder_range_wrong ex body
  range_seen = refl

-- ---- a setup that nothing refuses

pub record Accepted (ex : Bool) (body : List ℕ) : Type 0 where
  pub right : length body ≡ head_width ex + length_given ex (variables_part ex body)
  pub mode : mode_field body ≤ 2
  pub sign : (looks_at_trigger body && ltb 1 (sign_field ex body)) ≡ false
  pub sizes : any_size_zero (recorded_in ex body) ≡ false
  pub count : count_wrong (count_in (variables_part ex body)) ≡ false
  pub samples : eqb (samples_field body) 0 ≡ false
  pub room : samples_field body * set_size (recorded_in ex body) ≤ 4096
  pub trigger_size : (looks_at_trigger body && not (is_in (trigger_size_field ex body) (1 ∷ 2 ∷ 4 ∷ []))) ≡ false
  pub ranges : all_may may_be_recorded (recorded_in ex body) ≡ true
  pub trigger_range : (looks_at_trigger body && not (may_be_recorded (trigger_address_field ex body) (trigger_size_field ex body))) ≡ false

-- a trigger that is there, within its bounds
trigger_sound_lem : (mode size sign address threshold : ℕ) → mode ≤ 2 → size_sound mode size ≡ true → sign ≤ 1 → may_be_recorded address size ≡ true
    → threshold < 2 ^ (8 * size) → trigger_sound mode size sign address threshold ≡ true
trigger_sound_lem mode size sign address threshold m z g a t =
    rw (le-leb mode 2 m, z, le-leb sign 1 g, a, lt-ltb threshold (2 ^ (8 * size)) t)

module _ (ex : Bool) (body : List ℕ) (e : body_status ex body ≡ done) where
  abbrev vs : List Variable
  vs = recorded_in ex body

  abbrev n : ℕ
  n = count_in (variables_part ex body)

  pub accepted : Accepted ex body
  accepted =
      let given = eqb (length body) (head_width ex + length_given ex (variables_part ex body)) in
      let sign = looks_at_trigger body && ltb 1 (sign_field ex body) in
      let some = eqb (samples_field body) 0 in
      let range = looks_at_trigger body && not (may_be_recorded (trigger_address_field ex body) (trigger_size_field ex body)) in
      let all = none_applies (recorder_layout_wrong ex body) (recorder_size_wrong ex body) (recorder_range_wrong ex body) e in
      let l = none_of (not given || ltb 2 (mode_field body)) sign all.0 in
      let l1 = none_of (not given) (ltb 2 (mode_field body)) l.0 in
      let s = none_of (any_size_zero vs || count_wrong n || some || overflows ex body) (odd ex body) all.1 in
      let s1 = none_of (any_size_zero vs || count_wrong n || some) (overflows ex body) s.0 in
      let s2 = none_of (any_size_zero vs || count_wrong n) some s1.0 in
      let s3 = none_of (any_size_zero vs) (count_wrong n) s2.0 in
      let r = none_of (not (all_may may_be_recorded vs)) range all.2 in
      record {
        right = layout_right ex body all.0;
        mode = ltb-false 2 (mode_field body) l1.1;
        sign = l.1;
        sizes = s3.0;
        count = s3.1;
        samples = s2.1;
        room = ltb-false 4096 (samples_field body * set_size vs) s1.1;
        trigger_size = s.1;
        ranges = not-false (all_may may_be_recorded vs) r.0;
        trigger_range = r.1;
      }

  -- it holds the fields before the count
  pub accepted_long : head_width ex ≤ length body
  accepted_long = omega (arith, accepted.right)

  few : n ≤ 8
  few = (count_right n accepted.count).1

  -- its definitions, as they are kept, stand for themselves
  accepted_variables : variables_of (kept vs) ≡ vs
  accepted_variables = kept_all vs (rw (definitions_length_lem ex n) few)

  -- the plan in the struct is the document's
  pub accepted_means : plan_of (plan_read ex body) ≡ plan_in ex body
  unfolding plan_in
  accepted_means =
      λ i.
      record {
        samples = (plan_in ex body).samples;
        post_trigger = (plan_in ex body).post_trigger;
        divider = (plan_in ex body).divider;
        trigger = (plan_in ex body).trigger;
        variables = accepted_variables i;
      }

  -- the plan is sound: of its bounds only the threshold's is left to the bytes
  module _ (t : (plan_in ex body).trigger.size ≤ 4 → (plan_in ex body).trigger.threshold < 2 ^ (8 * (plan_in ex body).trigger.size)) where
    abbrev q : Trigger
    q = trigger_in ex body

    accepted_trigger : trigger_sound q.mode q.size q.sign q.address q.threshold ≡ true
    unfolding plan_in
    accepted_trigger =
        let sound : Trigger → Bool = λ (x : Trigger). trigger_sound x.mode x.size x.sign x.address x.threshold in
        split (eqb (mode_field body) 0)
        (λ z. ap sound (trigger_none ex body (eqb-true (mode_field body) 0 z)))
        (λ f.
        let some = trigger_some ex body (eqb-false (mode_field body) 0 f) in
        let size : is_in (trigger_size_field ex body) (1 ∷ 2 ∷ 4 ∷ []) ≡ true = not-false _ (rw f at accepted.trigger_size) in
        let fits : q.threshold < 2 ^ (8 * q.size) = t (rw some (one_of_sizes (trigger_size_field ex body) size).1) in
        ap sound some
        ∙ trigger_sound_lem (mode_field body) (trigger_size_field ex body) (sign_field ex body) (trigger_address_field ex body) _
        accepted.mode
        (rw f size)
        (ltb-false 1 (sign_field ex body) (rw f at accepted.sign))
        (not-false _ (rw f at accepted.trigger_range))
        (rw some at fits))

    pub accepted_sound : plan_sound (plan_read ex body) ≡ true
    unfolding plan_sound plan_in
    accepted_sound =
        rw (
          accepted.samples,
          accepted_trigger,
          accepted_variables,
          definitions_length_lem ex n,
          accepted.count,
          accepted.sizes,
          accepted.ranges,
          le-leb (samples_field body * set_size vs) 4096 accepted.room,
        )
