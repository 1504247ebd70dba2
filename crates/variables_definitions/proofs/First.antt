-- The first of three refusals: where none applies.
use mathlib.Core.Path.{◌≡◌, refl}
use mathlib.Core.Bool.{Bool, true, false}
use native.Mathlib.Omega.{arith}
use Rattle.document.specs.Numbers.{done}
use Rattle.variables_definitions.specs.Wrong.{first_wrong}

pub none_applies : (a b c : Bool) → first_wrong a b c ≡ done → (a ≡ false) × (b ≡ false) × (c ≡ false)
none_applies false false false e = (refl, refl, refl)
none_applies true b c e = let x : ⊥ = omega arith in absurd x
none_applies false true c e = let x : ⊥ = omega arith in absurd x
none_applies false false true e = let x : ⊥ = omega arith in absurd x
