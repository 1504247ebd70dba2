-- Plain stores: their length, two after each other, and a turn of the loop, where what is left to store gives the whole.
use mathlib.Core.Path.{◌≡◌, ap, ◌∙◌}
use mathlib.Core.List.{List, [], ◌∷◌, ◌++◌}
use Prim.Native.Nat.{ℕ, suc, ◌+◌, ◌<◌}
use native.Mathlib.Nat.{add-suc, add-zero, suc-add}
use native.Mathlib.Numerals.{add-one}
use lib.ListN.{length, get_or, set, drop}
use lib.Seq.{length-sets, drop-cons}
use Rattle.document.specs.Stores.{stored}

pub stored_length : (m m' vs : List ℕ) (i : ℕ) → m' ≡ stored m i vs → length m' ≡ length m
stored_length m m' vs i e = ap length e ∙ length-sets m i vs

pub stored_append : (xs ys memory : List ℕ) (i : ℕ) → stored memory i (xs ++ ys) ≡ stored (stored memory i xs) (i + length xs) ys
stored_append [] ys m i = rw add-zero
stored_append (x ∷ xs) ys m i = rw (stored_append xs ys (set m i x) (suc i), add-suc i (length xs), suc-add i (length xs))

pub stored_next : (memory bytes : List ℕ) (at i : ℕ) → i < length bytes
    → stored (set memory (at + i) (get_or bytes i 0)) (at + (i + 1)) (drop (i + 1) bytes) ≡ stored memory (at + i) (drop i bytes)
stored_next m bs at i h = rw (add-one i, add-suc at i, drop-cons bs i 0 h)
