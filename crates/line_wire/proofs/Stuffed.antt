-- Laws of doubling: of bytes one behind the other, of their length, and of a buffer that takes them in order.
use mathlib.Core.Path.{◌≡◌, refl, sym, ◌∙◌}
use mathlib.Core.List.{List, [], ◌∷◌, ◌++◌, append_assoc}
use Prim.Native.Nat.{ℕ, suc, ◌+◌, ◌*◌, ◌≤◌, ◌<◌}
use native.Mathlib.Nat.{add-suc, add-zero, suc-add}
use native.Mathlib.Numerals.{add-one}
use native.Mathlib.Omega.{arith}
use lib.Dec.{eqb}
use lib.ListN.{length, get_or, set, drop, length-append}
use lib.Seq.{sets, drop-cons}
use Rattle.document.specs.Doubling.{stuffed}
use Rattle.document.specs.Sum.{total}
use Rattle.document.proofs.Cases.{split}

-- ---- a byte, then others

pub stuffed_cons : (b : ℕ) (bs : List ℕ) → stuffed (b ∷ bs) ≡ stuffed (b ∷ []) ++ stuffed bs
stuffed_cons b bs = split (eqb b 0x2B) (λ e. simp e) (λ e. simp e)

pub stuffed_one : (b : ℕ) → length (stuffed (b ∷ [])) ≤ 2
stuffed_one b = split (eqb b 0x2B) (λ e. simp e (omega arith)) (λ e. simp e (omega arith))

pub stuffed_some : (b : ℕ) → 0 < length (stuffed (b ∷ []))
stuffed_some b = split (eqb b 0x2B) (λ e. simp e (omega arith)) (λ e. simp e (omega arith))

-- ---- lists of bytes

pub stuffed_append : (xs ys : List ℕ) → stuffed (xs ++ ys) ≡ stuffed xs ++ stuffed ys
stuffed_append [] ys = refl
stuffed_append (x ∷ xs) ys =
    stuffed_cons x (xs ++ ys)
    ∙ rw (stuffed_append xs ys, stuffed_cons x xs) (sym (append_assoc (stuffed (x ∷ [])) (stuffed xs) (stuffed ys)))

pub stuffed_length : (xs : List ℕ) → length (stuffed xs) ≤ length xs * 2
stuffed_length [] = omega arith
stuffed_length (x ∷ xs) =
    rw (stuffed_cons x xs, length-append (stuffed (x ∷ []))) (omega (arith, stuffed_one x, stuffed_length xs))

-- ---- a buffer that takes one list behind the other

pub sets_append : (xs ys l : List ℕ) (i : ℕ) → sets l i (xs ++ ys) ≡ sets (sets l i xs) (i + length xs) ys
sets_append [] ys l i = rw add-zero
sets_append (x ∷ xs) ys l i =
    rw (sets_append xs ys (set l i x) (suc i), add-suc i (length xs), suc-add i (length xs))

-- ---- one turn: the byte at i, then those behind it

module _ (xs : List ℕ) (i : ℕ) (h : i < length xs) where
  stuffed_drop : stuffed (drop i xs) ≡ stuffed (get_or xs i 0 ∷ []) ++ stuffed (drop (i + 1) xs)
  stuffed_drop = rw (add-one i, drop-cons xs i 0 h) (stuffed_cons (get_or xs i 0) (drop (suc i) xs))

  pub stuffed-drop-length :
      length (stuffed (drop i xs)) ≡ length (stuffed (get_or xs i 0 ∷ [])) + length (stuffed (drop (i + 1) xs))
  stuffed-drop-length = rw (stuffed_drop, length-append)

  pub stuffed_drop_sets : (l : List ℕ) (o : ℕ) →
      sets (sets l o (stuffed (get_or xs i 0 ∷ []))) (o + length (stuffed (get_or xs i 0 ∷ []))) (stuffed (drop (i + 1) xs))
      ≡ sets l o (stuffed (drop i xs))
  stuffed_drop_sets l o = rw (stuffed_drop, sets_append (stuffed (get_or xs i 0 ∷ [])))

  pub total_drop : total (drop i xs) ≡ get_or xs i 0 + total (drop (i + 1) xs)
  total_drop = rw (add-one i, drop-cons xs i 0 h)
