-- Words put one by one: the bytes so far, and the room for one more.
use mathlib.Core.Path.{◌≡◌, refl, ap}
use mathlib.Core.List.{List, [], ◌∷◌, ◌++◌}
use Prim.Native.Nat.{ℕ, ◌+◌, ◌*◌, ◌≤◌, ◌<◌}
use native.Mathlib.Numerals.{add-one}
use native.Mathlib.Omega.{arith}
use lib.ListN.{length, get_or, take, length-take}
use lib.Seq.{take-suc}
use Rattle.document.specs.Values.{little_endian}
use Rattle.serve_answers.specs.Words.{words_of}

words_append : (xs : List ℕ) (y : ℕ) → words_of (xs ++ (y ∷ [])) ≡ words_of xs ++ little_endian 2 y
words_append [] y = refl
words_append (x ∷ xs) y = ap (λ (l : List ℕ). little_endian 2 x ++ l) (words_append xs y)

pub words_length : (xs : List ℕ) → length (words_of xs) ≡ 2 * length xs
words_length [] = refl
words_length (x ∷ xs) = let rest = words_length xs in omega (arith, rest)

-- one turn of a loop over the words
pub words_step : (xs : List ℕ) (i : ℕ) → i < length xs → words_of (take (i + 1) xs) ≡ words_of (take i xs) ++ little_endian 2 (get_or xs i 0)
words_step xs i h = rw (add-one i, take-suc xs i 0 h) (words_append (take i xs) (get_or xs i 0))

pub words_few : (xs : List ℕ) (i : ℕ) → length xs ≤ 32 → length (words_of (take i xs)) ≤ 64
words_few xs i few = rw (words_length (take i xs)) (simp length-take (omega (arith, few)))

pub words_fewer : (xs : List ℕ) (i : ℕ) → i < length xs → length xs ≤ 32 → length (words_of (take i xs)) ≤ 63
words_fewer xs i h few = rw (words_length (take i xs)) (simp length-take (omega (arith, h, few)))
