-- A set is as long as the variables' sizes add up to, and it and the trigger's value come from below the buffer alone.
use mathlib.Core.Path.{◌≡◌, refl, ap}
use mathlib.Core.Bool.{true}
use mathlib.Core.List.{List, [], ◌∷◌}
use Prim.Native.Nat.{ℕ, ◌+◌, ◌≤◌}
use native.Mathlib.Omega.{arith}
use lib.ListN.{length, take}
use borrow.Author.Tests.{leb-true}
use Rattle.document.specs.Areas.{recorded_end, memory_end, may_be_recorded}
use Rattle.document.specs.Values.{number}
use Rattle.document.specs.declared.Variable.{Variable}
use Rattle.document.specs.Variables.{all_may, set_size, values_of}
use Rattle.document.specs.Plan.{Plan}
use Rattle.document.specs.Trigger.{trigger_value}
use Rattle.document.specs.Run.{set_of}
use Rattle.variables_list.proofs.Values.{values_length}
use Rattle.recorder_history.specs.History.{PlanFits}
use Rattle.document.proofs.Cases.{both}
use Rattle.memory_ranges.proofs.Stored.{bytes_agree}

-- where a variable that may be recorded ends
below : (a n : ℕ) → may_be_recorded a n ≡ true → a + n ≤ recorded_end
below a n e = leb-true (a + n) recorded_end e

pub values_agree : (m n : List ℕ) (vs : List Variable) → all_may may_be_recorded vs ≡ true → take recorded_end m ≡ take recorded_end n
    → values_of m vs ≡ values_of n vs
values_agree m n [] e a = refl
values_agree m n (v ∷ vs) e a =
    let b = both (may_be_recorded v.address v.size) (all_may may_be_recorded vs) e in
    rw
    (bytes_agree m n recorded_end v.address v.size a (below v.address v.size b.0), values_agree m n vs b.1 a)

module _ (p : Plan) (f : PlanFits p) where
  pub set_length : (m : List ℕ) → length m ≡ memory_end → length (set_of p m) ≡ set_size p.variables
  set_length m e = values_length m recorded_end p.variables f.variables (omega arith)

  -- memories that agree below the buffer have the same set and the same value
  pub set_agrees : (m n : List ℕ) → take recorded_end m ≡ take recorded_end n → set_of p m ≡ set_of p n
  set_agrees m n a = values_agree m n p.variables f.variables a

  pub value_agrees : (m n : List ℕ) → take recorded_end m ≡ take recorded_end n
      → trigger_value p.trigger m ≡ trigger_value p.trigger n
  value_agrees m n a =
      ap number
      (bytes_agree m n recorded_end p.trigger.address p.trigger.size a
      (below p.trigger.address p.trigger.size f.trigger))
