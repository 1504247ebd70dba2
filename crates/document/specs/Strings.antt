-- A string in memory: the bytes from an address on, up to a zero (2026-03).
use Rattle.std.specs.Prelude.{Bool, true, false, cond, List, [], ◌∷◌, ℕ, suc, drop, eqb}

-- how many bytes stand before the first zero
unfoldable pub before_zero : List ℕ → ℕ
before_zero [] = 0
before_zero (b ∷ bs) = cond (eqb b 0) 0 (suc (before_zero bs))

unfoldable pub has_zero : List ℕ → Bool
has_zero [] = false
has_zero (b ∷ bs) = cond (eqb b 0) true (has_zero bs)

-- "the length of a zero-terminated string", without the zero
abbrev pub string_length : List ℕ → ℕ → ℕ
string_length memory address = before_zero (drop address memory)

-- "no zero before memory's end" is where this is false
abbrev pub string_ends : List ℕ → ℕ → Bool
string_ends memory address = has_zero (drop address memory)
