-- The operands of a line: what the word at a place says, and where the next may begin.
use Rattle.std.specs.Prelude.{List, ℕ, Option, option_map}
use Rattle.script_words.specs.Words.{word_of, word_end}
use Rattle.script_numbers.specs.Numbers.{hex_of, decimal_of}

-- what is read off a word, if it says such a thing, and where the word ends
abbrev pub then_at : {A : Type 0} → Option A → ℕ → Option (A × ℕ)
then_at said next = option_map (λ value. (value, next)) said

abbrev pub byte_at : List ℕ → ℕ → Option (ℕ × ℕ)
byte_at line from = then_at (hex_of (word_of line from)) (word_end line from)

abbrev pub number_at : List ℕ → ℕ → Option (ℕ × ℕ)
number_at line from = then_at (decimal_of (word_of line from)) (word_end line from)
