-- Bytes written as document 01 writes them: "All bytes hex".
use Rattle.std.specs.Prelude.{cond, List, ℕ, ◌+◌, ◌-◌, ◌*◌, leb, eqb}
use mathlib.Core.List.List.{[] as none, ◌∷◌ as ◌then◌}
use Prim.Native.Char.{code}
use Prim.Native.String.{String, [], ◌∷◌}

-- 0 to 9 and A to F, each by its code
abbrev digit : ℕ → ℕ
digit c = cond (leb 65 c) (c - 55) (c - 48)

-- two digits a byte, and a space where it helps the reader
abbrev pub hex : String → List ℕ
hex [] = none
hex (a ∷ []) = none
hex (a ∷ (b ∷ s)) = cond (eqb (code a) 32) (hex (b ∷ s)) ((16 * digit (code a) + digit (code b)) then hex s)
