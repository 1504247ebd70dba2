-- The bounds of a plan's numbers.
use Rattle.std.specs.Prelude.{Bool, cond, not, ◌&&◌, [], ◌∷◌, ℕ, ◌*◌, ◌^◌, eqb, ltb, leb}
use Rattle.document.specs.Numbers.{is_in}
use Rattle.document.specs.Areas.{may_be_recorded}
use Rattle.document.specs.Variables.{count_wrong, any_size_zero, all_may, set_size}
use Rattle.variables_list.specs.State.{variables_of}
use Rattle.variables_list.specs.declared.Variables.{Variables}
use Rattle.recorder_plans.specs.declared.plan.Plan.{Plan as PlanState}

-- a number of so many bytes
abbrev pub fits : ℕ → ℕ → Bool
fits size x = ltb x (2 ^ (8 * size))

-- no trigger has no size; "with mode 1 or 2, a trigger size other than 1, 2, 4" is refused
abbrev pub size_sound : ℕ → ℕ → Bool
size_sound mode size = cond (eqb mode 0) (eqb size 0) (is_in size (1 ∷ 2 ∷ 4 ∷ []))

abbrev pub trigger_sound : ℕ → ℕ → ℕ → ℕ → ℕ → Bool
trigger_sound mode size sign address threshold =
    leb mode 2 && size_sound mode size && leb sign 1 && may_be_recorded address size && fits size threshold

-- "a size of 0; a variable count of 0 or above 8; .. samples times set size above 4,096" are refused
abbrev pub variables_sound : ℕ → Variables → Bool
variables_sound samples v =
    not (count_wrong v.count)
    && not (any_size_zero (variables_of v))
    && all_may may_be_recorded (variables_of v)
    && leb (samples * set_size (variables_of v)) 4096

unfoldable pub plan_sound : PlanState → Bool
plan_sound p =
    not (eqb p.samples 0)
    && trigger_sound p.mode p.size p.sign p.address p.threshold
    && variables_sound p.samples p.variables
