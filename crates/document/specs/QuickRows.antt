-- The rows over a short memory. What walks 16,384 bytes is slow to compute, and a wrong definition is to be refused in seconds: a row is
-- quick where it wants the first 96 bytes alone. crates/document_worked has every row over the whole memory.
use Rattle.std.specs.Prelude.{Bool, false, cond, not, ◌&&◌, ◌||◌, List, [], ◌∷◌, ℕ, replicate, get_or, eqb}
use Rattle.document.specs.Numbers.{is_in}
use Rattle.document.specs.Rows.{Row, said_by, step_by_step_over}

abbrev short_memory : List ℕ
short_memory = replicate 96 0

-- ---- steps that read behind it, where the answers of a short memory and of a whole one differ: left out

-- of a message's wire bytes, whether the one at this place behind the command is there and not 0
abbrev is_set : ℕ → List ℕ → Bool
is_set place bytes = not (eqb (get_or bytes place 0) 0)

-- a read at an address of 256 or above
abbrev reads_far : List ℕ → Bool
reads_far [] = false
reads_far (start ∷ []) = false
reads_far (start ∷ c ∷ bytes) =
    cond (is_in c (0xD0 ∷ 0xD1 ∷ 0xD2 ∷ 0xD4 ∷ [])) (is_set 1 bytes)
    (cond (is_in c (0xE0 ∷ 0xE1 ∷ 0xE2 ∷ 0xE6 ∷ [])) (is_set 1 bytes || is_set 2 bytes || is_set 3 bytes) (eqb c 0x01 && is_set 3 bytes))

-- answered with success: a refusal looks at no byte that is read
abbrev is_done : List (List ℕ) → Bool
is_done [] = false
is_done (a ∷ more) = eqb (get_or a 1 1) 0

abbrev quick : Row → Row
quick [] = []
quick (s ∷ ss) = cond (is_done s.answers && reads_far s.bytes) (quick ss) (s ∷ quick ss)

-- ---- what such a row says, and what the definitions make of it

abbrev pub said_quick : Row → List (List ℕ)
said_quick row = said_by (quick row)

abbrev pub step_by_step_quick : Row → List (List ℕ)
step_by_step_quick row = step_by_step_over short_memory (quick row)
