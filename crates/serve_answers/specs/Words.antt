-- Words in bytes, one behind the other.
use Rattle.std.specs.Prelude.{List, [], ◌∷◌, ◌++◌, ℕ}
use Rattle.document.specs.Values.{little_endian}

abbrev pub words_of : List ℕ → List ℕ
words_of [] = []
words_of (word ∷ words) = little_endian 2 word ++ words_of words
