-- The bounds of a state, test by test in the order of the code.
use mathlib.Core.Path.{◌≡◌, refl, sym}
use mathlib.Core.Bool.{Bool, true, false, not, ◌&&◌}
use mathlib.Core.List.{List}
use Prim.Native.Nat.{ℕ, ◌+◌, ◌*◌, ◌<◌, ◌≤◌}
use lib.ListN.{get_or, take, drop}
use lib.Dec.{leb}
use borrow.Author.Tests.{eq-eqb, ne_eqb, lt-leb, le-leb, lt-ltb, le-ltb}
use Rattle.document.specs.Areas.{memory_end, recorded_end, may_be_recorded}
use Rattle.document.specs.Variables.{any_size_zero, all_may, definitions_in, set_size}
use Rattle.recorder_plans.specs.declared.plan.Plan.{Plan}
use Rattle.recorder_plans.specs.Bounds.{trigger_sound, variables_sound, plan_sound}
use Rattle.recorder_runs.specs.Bounds.{run_sound}
use Rattle.scope_state.specs.State as scope
use Rattle.recorder_state.specs.Bounds as recorder
use Rattle.state_block.specs.Layout.{decoded_definitions, decoded_variables, decoded_scope, decoded_plan, decoded_run, decoded_recorder}
use Rattle.state_block.specs.Places.{scope_place, recorder_place, recorded_place}
use Rattle.state_bounds.specs.Measured.{are_within}
use Rattle.state_block.proofs.Definitions.{definitions_take}

-- ---- the plan

module _ (p : Plan) where
  pub no_samples_lem : p.samples ≡ 0 → false ≡ plan_sound p
  unfolding plan_sound
  no_samples_lem e = rw (eq-eqb p.samples 0 e)

  module _ (some : p.samples ≡ 0 → ⊥) where
    pub trigger_outside : trigger_sound p.mode p.size p.sign p.address p.threshold ≡ false → false ≡ plan_sound p
    unfolding plan_sound
    trigger_outside e = rw (ne_eqb p.samples 0 some, e)

    pub variables_decide : trigger_sound p.mode p.size p.sign p.address p.threshold ≡ true
        → (w : Bool) → w ≡ variables_sound p.samples p.variables → w ≡ plan_sound p
    unfolding plan_sound
    variables_decide e w f = rw (ne_eqb p.samples 0 some, e) f

-- ---- the recorded variables

module _ (block : List ℕ) (at : ℕ) where
  -- the first few of the eight
  pub counted : (n : ℕ) → n ≤ 8 → take n (decoded_definitions block at) ≡ definitions_in true n (drop at block)
  unfolding decoded_definitions
  counted n h = definitions_take n 8 (drop at block) h

first_false : (t rest : Bool) → t ≡ false → false ≡ t && rest
first_false t rest e = sym (rw e refl)

first_true : (t rest : Bool) → t ≡ true → rest ≡ t && rest
first_true t rest e = sym (rw e refl)

module _ (block : List ℕ) (samples n : ℕ) (e : n ≡ get_or block recorded_place 0) where
  pub none_counted : n ≡ 0 → false ≡ variables_sound samples (decoded_variables block recorded_place)
  none_counted z = rw (← e, eq-eqb n 0 z)

  module _ (some : n ≡ 0 → ⊥) where
    pub many_counted : 8 < n → false ≡ variables_sound samples (decoded_variables block recorded_place)
    many_counted h = rw (← e, ne_eqb n 0 some, lt-ltb 8 n h)

    module _ (few : n ≤ 8) where
      pub outside_recorded : are_within recorded_end (definitions_in true n (drop (recorded_place + 1) block)) ≡ false → false ≡ variables_sound samples (decoded_variables block recorded_place)
      unfolding are_within
      outside_recorded h =
          rw (← e, ne_eqb n 0 some, le-ltb 8 n few, counted block (recorded_place + 1) n few)
          (first_false (not (any_size_zero (definitions_in true n (drop (recorded_place + 1) block))) && all_may may_be_recorded (definitions_in true n (drop (recorded_place + 1) block))) (leb (samples * set_size (definitions_in true n (drop (recorded_place + 1) block))) 4096) h)

      pub size_decides : (size : ℕ) → are_within recorded_end (definitions_in true n (drop (recorded_place + 1) block)) ≡ true → size ≡ set_size (definitions_in true n (drop (recorded_place + 1) block))
          → leb (samples * size) 4096 ≡ variables_sound samples (decoded_variables block recorded_place)
      unfolding are_within
      size_decides size h s =
          rw (← e, ne_eqb n 0 some, le-ltb 8 n few, counted block (recorded_place + 1) n few, s)
          (first_true (not (any_size_zero (definitions_in true n (drop (recorded_place + 1) block))) && all_may may_be_recorded (definitions_in true n (drop (recorded_place + 1) block))) (leb (samples * set_size (definitions_in true n (drop (recorded_place + 1) block))) 4096) h)

-- ---- the scope

module _ (block : List ℕ) (n : ℕ) (e : n ≡ get_or block scope_place 0) where
  pub scope_many : 8 < n → false ≡ scope.sound (decoded_scope block)
  unfolding scope.sound decoded_scope
  scope_many h = rw (← e, lt-leb n 8 h)

  pub scope_counted : n ≤ 8 → are_within memory_end (definitions_in true n (drop (scope_place + 1) block)) ≡ scope.sound (decoded_scope block)
  unfolding scope.sound decoded_scope are_within
  scope_counted h = rw (← e, le-leb n 8 h, counted block (scope_place + 1) n h)

-- ---- the recorder

module _ (block : List ℕ) where
  pub not_ready : get_or block recorder_place 0 ≡ 0 → true ≡ recorder.sound (decoded_recorder block)
  unfolding decoded_recorder
  not_ready e = rw (eq-eqb (get_or block recorder_place 0) 0 e)

  module _ (set : get_or block recorder_place 0 ≡ 0 → ⊥) where
    pub no_flag : (get_or block recorder_place 0 ≡ 1 → ⊥) → false ≡ recorder.sound (decoded_recorder block)
    unfolding decoded_recorder
    no_flag n = rw (ne_eqb (get_or block recorder_place 0) 0 set, ne_eqb (get_or block recorder_place 0) 1 n)

    module _ (one : get_or block recorder_place 0 ≡ 1) where
      pub plan_outside : plan_sound (decoded_plan block) ≡ false → false ≡ recorder.sound (decoded_recorder block)
      unfolding decoded_recorder
      plan_outside e = rw (ne_eqb (get_or block recorder_place 0) 0 set, eq-eqb (get_or block recorder_place 0) 1 one, e)

      pub run_decides : plan_sound (decoded_plan block) ≡ true → run_sound (decoded_plan block) (decoded_run block) ≡ recorder.sound (decoded_recorder block)
      unfolding decoded_recorder
      run_decides e = rw (ne_eqb (get_or block recorder_place 0) 0 set, eq-eqb (get_or block recorder_place 0) 1 one, e)
