-- No number of a refusal is that of a call that is taken.
use mathlib.Core.Path.{◌≡◌}
use native.Mathlib.Omega.{arith}
use Rattle.document.specs.Numbers.{taken}
use Rattle.codes_table.specs.declared.calls.Refusal.{Refusal}
use Rattle.codes_table.specs.declared.calls.Refusal.TheVariants.{State, Memory, Room, Form, Expected, Sum, Report, List, Station}
use Rattle.codes_table.specs.Calls.{refusal_number}

pub refusal_some : (refusal : Refusal) → refusal_number refusal ≡ taken → ⊥
refusal_some State e = omega arith
refusal_some Memory e = omega arith
refusal_some Room e = omega arith
refusal_some Form e = omega arith
refusal_some Expected e = omega arith
refusal_some Sum e = omega arith
refusal_some Report e = omega arith
refusal_some List e = omega arith
refusal_some Station e = omega arith
