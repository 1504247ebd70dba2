-- The variables that are recorded, by their definitions in a block, and their bytes in a place of the ring.
use Rattle.std.specs.Prelude.{◌≡◌, true, List, ℕ, ◌+◌, ◌*◌, ◌≤◌, length, drop}
use Rattle.document.specs.Areas.{buffer_begin, may_be_recorded}
use Rattle.document.specs.Stores.{stored}
use Rattle.document.specs.declared.Variable.{Variable}
use Rattle.document.specs.Variables.{definition_width, definitions_in, all_may, set_size, values_of}

-- so many, the first of which is defined at a place of the block
abbrev pub variables_at : List ℕ → ℕ → ℕ → List Variable
variables_at block from count = definitions_in true count (drop from block)

-- room for eight definitions lies in the block, and those that count may be recorded
pub record Recordable (block : List ℕ) (from count : ℕ) : Type 0 where
  pub few : count ≤ 8
  pub inside : from + 8 * definition_width true ≤ length block
  pub may : all_may may_be_recorded (variables_at block from count) ≡ true

-- "Place p begins at byte 12,288 + p × set size"
abbrev pub set_stored : List ℕ → ℕ → List Variable → List ℕ
set_stored memory place vs = stored memory (buffer_begin + place * set_size vs) (values_of memory vs)
