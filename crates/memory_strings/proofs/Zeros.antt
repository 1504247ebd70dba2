-- The first zero stands behind the bytes that are counted: none of these is a zero, and a zero with none before it is the first.
use mathlib.Core.Path.{◌≡◌, refl, sym, ap, ◌∙◌}
use mathlib.Core.Bool.{Bool, true, cond}
use mathlib.Core.List.{List, [], ◌∷◌}
use Prim.Native.Nat.{ℕ, zero, suc, ◌<◌, ◌≤◌}
use native.Mathlib.Omega.{arith}
use lib.Dec.{eqb, ltb, leb-suc-suc, leb-suc-zero}
use lib.ListN.{length, get_or}
use borrow.Author.Tests.{eq-eqb, ne_eqb, eqb-true, lt-ltb, ltb-false}
use Rattle.std.specs.List.{position, position_or_len}
use Rattle.std.specs.Option.{unwrap_or}
use Rattle.std.proofs.lemmas.List.Recursion.{is_position_or_len}
use Rattle.document.specs.Strings.{before_zero, has_zero}
use Rattle.document.proofs.Cases.{split, neither}

pub within : (bs : List ℕ) → before_zero bs ≤ length bs
unfolding before_zero
within [] = omega arith
within (b ∷ bs) = split (eqb b 0) (λ y. rw y (omega arith)) (λ n. rw n (omega (arith, within bs)))

pub ends : (bs : List ℕ) → has_zero bs ≡ ltb (before_zero bs) (length bs)
unfolding before_zero has_zero
ends [] = sym (leb-suc-zero 0)
ends (b ∷ bs) =
    split (eqb b 0)
    (λ y. rw y (sym (lt-ltb 0 (suc (length bs)) (omega arith))))
    (λ n. rw (n, ends bs) (sym (leb-suc-suc (suc (before_zero bs)) (length bs))))

-- it is a byte of the list, so it does not matter what is read behind the end
pub at_zero : (bs : List ℕ) (d : ℕ) → has_zero bs ≡ true → get_or bs (before_zero bs) d ≡ 0
unfolding before_zero has_zero
at_zero [] d h = neither h
at_zero (b ∷ bs) d h =
    split (eqb b 0) (λ y. rw y (eqb-true b 0 y)) (λ n. rw n (at_zero bs d (rw n at h)))

-- no zero among the first n bytes
abbrev pub NoneBefore : List ℕ → ℕ → Type 0
NoneBefore bs n = (i : ℕ) → i < n → get_or bs i 0 ≡ 0 → ⊥

pub none_before : (bs : List ℕ) → NoneBefore bs (before_zero bs)
unfolding before_zero
none_before [] i h z = omega arith
none_before (b ∷ bs) zero h z = let none : 0 < 0 = rw (eq-eqb b 0 z) at h in omega arith
none_before (b ∷ bs) (suc i) h z =
    split (eqb b 0)
    (λ y. let none : suc i < 0 = rw y at h in omega arith)
    (λ n. let more : suc i < suc (before_zero bs) = rw n at h in none_before bs i (omega arith) z)

-- a zero with none before it, or the end, behind which a zero is read
pub counted : (bs : List ℕ) (n : ℕ) → get_or bs n 0 ≡ 0 → NoneBefore bs n → before_zero bs ≡ n
unfolding before_zero
counted [] zero z none = refl
counted [] (suc n) z none = absurd (none 0 (omega arith) refl)
counted (b ∷ bs) zero z none = rw (eq-eqb b 0 z)
counted (b ∷ bs) (suc n) z none =
    rw (ne_eqb b 0 (none 0 (omega arith)), counted bs n z (λ i h. none (suc i) (omega arith)))

pub first_zero : (bs : List ℕ) (n : ℕ) → n < length bs → get_or bs n 0 ≡ 0 → NoneBefore bs n
    → (before_zero bs ≡ n) × (has_zero bs ≡ true)
first_zero bs n h z none =
    let e : before_zero bs ≡ n = counted bs n z none in
    (e, ends bs ∙ lt-ltb (before_zero bs) (length bs) (omega arith))

-- a search for the first zero finds it, or there is none
abbrev pub is_zero : ℕ → Bool
is_zero b = eqb b 0

before_first : (bs : List ℕ) → before_zero bs ≡ position_or_len is_zero bs
unfolding before_zero
before_first = is_position_or_len before_zero is_zero refl (λ b bs. ap (cond (eqb b 0) 0) (omega arith))

pub first_or_all : (bs : List ℕ) → unwrap_or (position is_zero bs) (length bs) ≡ before_zero bs
first_or_all bs =
    let e : before_zero bs ≡ position_or_len is_zero bs = before_first bs in
    split (ltb (position_or_len is_zero bs) (length bs))
    (λ y. rw y (sym e))
    (λ n. rw n (omega (arith, within bs, ltb-false (position_or_len is_zero bs) (length bs) n)))
