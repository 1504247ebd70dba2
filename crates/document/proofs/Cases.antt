-- By cases on a test, with what the test says in each.
use mathlib.Core.Path.{◌≡◌, refl, sym}
use mathlib.Core.Bool.{Bool, true, false, false≢true, ◌&&◌, ◌||◌}

pub split : {P : Type 0} (t : Bool) → (t ≡ true → P) → (t ≡ false → P) → P
split true holds fails = holds refl
split false holds fails = fails refl

-- no test is both
pub neither : {P : Type 0} → false ≡ true → P
neither e = absurd (false≢true e)

pub both : (s t : Bool) → s && t ≡ true → (s ≡ true) × (t ≡ true)
both true t e = (refl, e)
both false t e = neither e

pub and_left : (s t : Bool) → s && t ≡ true → s ≡ true
and_left s t e = (both s t e).0

pub and_right : (s t : Bool) → s && t ≡ true → t ≡ true
and_right s t e = (both s t e).1

-- what holds of neither
pub none_of : (s t : Bool) → s || t ≡ false → (s ≡ false) × (t ≡ false)
none_of true t e = neither (sym e)
none_of false t e = (refl, e)
