-- "Sizes of the base types" (2026-03). The codes are those of source document 000, "Pre-defined constants".
use Rattle.std.specs.Prelude.{cond, List, [], ◌∷◌, ℕ, eqb}

pub record BaseType : Type 0 where
  pub code : ℕ
  pub size : ℕ

abbrev of : ℕ → ℕ → BaseType
of code size = record { code = code; size = size }

-- "E0, F0 one byte; E1, F1, E5, F5 two; E2, F2, E6, F6, FA four; E3, F3, FB eight"
abbrev pub base_types : List BaseType
base_types =
    of 0xE0 1 ∷ of 0xF0 1
    ∷ of 0xE1 2 ∷ of 0xF1 2 ∷ of 0xE5 2 ∷ of 0xF5 2
    ∷ of 0xE2 4 ∷ of 0xF2 4 ∷ of 0xE6 4 ∷ of 0xF6 4 ∷ of 0xFA 4
    ∷ of 0xE3 8 ∷ of 0xF3 8 ∷ of 0xFB 8
    ∷ []

abbrev size_in : ℕ → List BaseType → ℕ
size_in code [] = 0
size_in code (t ∷ ts) = cond (eqb code t.code) t.size (size_in code ts)

-- 0 for a code that is no base type's
unfoldable pub size_of_code : ℕ → ℕ
size_of_code code = size_in code base_types
