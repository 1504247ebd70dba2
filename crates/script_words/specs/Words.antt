-- Words of a line: what stands between white space.
use Rattle.std.specs.Prelude.{◌≡◌, Bool, true, false, List, ℕ, ◌+◌, ◌-◌, ◌≤◌, min, length, eqb, take, drop, take_while}
use Rattle.std.specs.Bool.{beq}
use Rattle.std.specs.Char.{is_ascii_whitespace}
use Rattle.script_words.specs.declared.words.Word.{Word}

-- ASCII white space: the space, and 9 to 13 (tab, line feed, form feed, carriage return) without the vertical tab
abbrev pub blank : ℕ → Bool
blank c = is_ascii_whitespace c

-- how many characters at the front are white space, or are none
abbrev pub spread : Bool → List ℕ → ℕ
spread blanks t = length (take_while (λ c. beq (blank c) blanks) t)

-- the first word at or behind a place: white space is passed over, then all that is none is the word
abbrev pub word_start : List ℕ → ℕ → ℕ
word_start line from = min from (length line) + spread true (drop from line)

abbrev pub word_end : List ℕ → ℕ → ℕ
word_end line from = word_start line from + spread false (drop (word_start line from) line)

abbrev pub word_of : List ℕ → ℕ → List ℕ
word_of line from = take (word_end line from - word_start line from) (drop (word_start line from) line)

-- whether no word is left
abbrev pub is_over : List ℕ → ℕ → Bool
is_over line from = eqb (word_start line from) (word_end line from)

pub record Found (line : List ℕ) (from : ℕ) (r : Word) : Type 0 where
  pub start : r.start ≡ word_start line from
  pub end : r.end ≡ word_end line from
  pub behind : min from (length line) ≤ r.start
  pub ordered : r.start ≤ r.end
  pub within : r.end ≤ length line
