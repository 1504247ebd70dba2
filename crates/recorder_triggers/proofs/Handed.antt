-- Signed numbers that a call gave are compared as they stand: each is read back from its bits.
use mathlib.Core.Path.{◌≡◌, ap, ◌∙◌}
use lib.IntN.{ℤ}
use lib.Signed.{le_z}
use mir.Val.{SFits, to_z, of_z}
use mir.Syntax.{w64}
use mir.Facts.{to_z-of_z}

-- a signed number as a call hands it on
abbrev handed : ℤ → ℤ
handed z = to_z w64 (of_z w64 z)

pub at_most_handed : (a b x y : ℤ) → SFits w64 a → SFits w64 b → a ≡ x → b ≡ y → le_z (handed a) (handed b) ≡ le_z x y
at_most_handed a b x y fa fb ea eb =
    ap (λ (z : ℤ). le_z z (handed b)) (to_z-of_z fa ∙ ea) ∙ ap (le_z x) (to_z-of_z fb ∙ eb)
