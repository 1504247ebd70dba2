-- The known statuses lie in two ranges.
use mathlib.Core.Path.{◌≡◌, refl, sym, ◌∙◌}
use mathlib.Core.Bool.{true, false, not, ◌&&◌}
use mathlib.Core.List.{List, [], ◌∷◌}
use Prim.Native.Nat.{ℕ, zero, suc, ◌+◌, ◌≤◌, ◌<◌}
use native.Mathlib.Omega.{arith}
use borrow.Author.Tests.{le-leb, lt-leb, lt-ltb, ne_eqb, eqb-false, ltb-true, ltb-false, not-true, eqb-true}
use lib.Dec.{eqb, leb, ltb, eqb-suc-zero}
use lib.ListN.{length}
use Rattle.document.specs.Answer.{Answer}
use Rattle.document.specs.AnswerWriter.{answer_formed}
use Rattle.document.specs.Numbers.{is_in, is_status, is_error}
use Rattle.document.proofs.Cases.{split, and_left, and_right}

-- n numbers from a on
abbrev from : ℕ → ℕ → List ℕ
from a zero = []
from a (suc n) = a ∷ from (suc a) n

within : (n a s : ℕ) → a ≤ s → s < a + n → is_in s (from a n) ≡ true
within zero a s l h = absurd (omega arith)
within (suc n) a s l h =
    split (eqb s a)
    (λ e. simp e)
    (λ e. simp e (within n (suc a) s (omega (arith, eqb-false s a e)) (omega arith)))

below : (n a s : ℕ) → s < a → is_in s (from a n) ≡ false
below zero a s l = refl
below (suc n) a s l = simp (ne_eqb s a (λ e. omega arith), below n (suc a) s (omega arith))

above : (n a s : ℕ) → a + n ≤ s → is_in s (from a n) ≡ false
above zero a s l = refl
above (suc n) a s l = simp (ne_eqb s a (λ e. omega arith), above n (suc a) s (omega arith))

pub status_success : (s : ℕ) → s ≤ 0x02 → is_status s ≡ true
status_success s h = simp (le-leb s 0x02 h)

pub status_error : (s : ℕ) → 0x81 ≤ s → s ≤ 0x89 → is_status s ≡ true
status_error s l h = simp (lt-leb s 0x02 (omega arith)) (within 9 0x81 s l (omega arith))

pub status_between : (s : ℕ) → 0x02 < s → s < 0x81 → is_status s ≡ false
status_between s l h = simp (lt-leb s 0x02 l) (below 9 0x81 s h)

pub status_above : (s : ℕ) → 0x89 < s → is_status s ≡ false
status_above s h = simp (lt-leb s 0x02 (omega arith)) (above 9 0x81 s (omega arith))

-- no known status is the start byte
pub status_other : (s : ℕ) → is_status s ≡ true → eqb s 0x2B ≡ false
status_other s known =
    split (eqb s 0x2B)
    (λ e. let none : false ≡ true = rw (eqb-true s 0x2B e) at known in e ∙ sym none)
    (λ e. e)

-- ---- what the length of the data has to be

pub few : (n : ℕ) → leb n 64 ≡ (not (ltb 64 n) && true)
few n =
    split (ltb 64 n)
    (λ e. simp (e, lt-leb n 64 (ltb-true 64 n e)))
    (λ e. simp (e, le-leb n 64 (ltb-false 64 n e)))

pub none : (n : ℕ) → eqb n 0 ≡ (not (ltb 64 n) && not (ltb 0 n))
none zero = refl
none (suc n) = split (ltb 64 (suc n)) (λ e. simp (e, eqb-suc-zero)) (λ e. simp (e, eqb-suc-zero, lt-ltb 0 (suc n) (omega arith)))

module _ (a : Answer) (formed : answer_formed a ≡ true) where
  pub formed_few : length a.body ≤ 64
  formed_few =
      ltb-false 64 (length a.body)
      (not-true (ltb 64 (length a.body)) (and_right (is_status a.status) _ (and_left (is_status a.status && not (ltb 64 (length a.body))) _ formed)))

  pub formed_other : eqb a.status 0x2B ≡ false
  formed_other =
      status_other a.status
      (and_left (is_status a.status) _ (and_left (is_status a.status && not (ltb 64 (length a.body))) _ formed))

  -- "none beside an error"
  pub formed_bare : is_error a.status ≡ true → length a.body ≤ 0
  formed_bare error =
      let beside : (is_error a.status && ltb 0 (length a.body)) ≡ false =
      not-true _ (and_right (is_status a.status && not (ltb 64 (length a.body))) _ formed) in
      ltb-false 0 (length a.body) (rw error at beside)
