-- The same store in two memories that agree in a part of them leaves two that agree there.
use mathlib.Core.Path.{◌≡◌, sym, ap, ◌∙◌}
use mathlib.Core.List.{List, [], ◌∷◌}
use Prim.Native.Nat.{ℕ, suc, ◌+◌, ◌-◌, ◌<◌, ◌≤◌}
use native.Mathlib.Omega.{arith}
use borrow.Author.Tests.{ltb-true, ltb-false}
use lib.Dec.{ltb}
use lib.ListN.{set, take, drop}
use lib.Seq.{sets, take-set-le, take-set-lt, drop-set-lt, drop-set-add}
use Rattle.document.specs.Areas.{bytes_at}
use Rattle.document.proofs.Cases.{split}

-- a place before a limit, or so far behind it
before_or_behind : {P : Type 0} (limit i : ℕ) → (i < limit → P) → ((j : ℕ) → i ≡ limit + j → P) → P
before_or_behind limit i before behind =
    split (ltb i limit) (λ t. before (ltb-true i limit t))
    (λ f. let above : limit ≤ i = ltb-false i limit f in behind (i - limit) (omega (arith, above)))

module _ (v : ℕ) where
  take_set_agrees : (l k : List ℕ) (n i : ℕ) → take n l ≡ take n k → take n (set l i v) ≡ take n (set k i v)
  take_set_agrees l k n i e =
      split (ltb i n)
      (λ t.
      let low : i < n = ltb-true i n t in take-set-lt n l i v low ∙ ap (λ (r : List ℕ). set r i v) e ∙ sym (take-set-lt n k i v low))
      (λ f.
      let high : n ≤ i = ltb-false i n f in take-set-le n l i v high ∙ e ∙ sym (take-set-le n k i v high))

  module _ (l k : List ℕ) (a i : ℕ) where
    drop_set_agrees : drop a l ≡ drop a k → drop a (set l i v) ≡ drop a (set k i v)
    drop_set_agrees e =
        before_or_behind a i (λ low. drop-set-lt a l i v low ∙ e ∙ sym (drop-set-lt a k i v low))
        (λ j is. rw is (drop-set-add a l j v ∙ ap (λ (r : List ℕ). set r j v) e ∙ sym (drop-set-add a k j v)))

    bytes_set_agrees : (n : ℕ) → bytes_at l a n ≡ bytes_at k a n → bytes_at (set l i v) a n ≡ bytes_at (set k i v) a n
    bytes_set_agrees n e =
        before_or_behind a i (λ low. ap (take n) (drop-set-lt a l i v low) ∙ e ∙ sym (ap (take n) (drop-set-lt a k i v low)))
        (λ j is. rw is (ap (take n) (drop-set-add a l j v) ∙ take_set_agrees (drop a l) (drop a k) n j e ∙ sym (ap (take n) (drop-set-add a k j v))))

pub drop_sets_agrees : (vs l k : List ℕ) (a i : ℕ) → drop a l ≡ drop a k → drop a (sets l i vs) ≡ drop a (sets k i vs)
drop_sets_agrees [] l k a i e = e
drop_sets_agrees (v ∷ vs) l k a i e = drop_sets_agrees vs (set l i v) (set k i v) a (suc i) (drop_set_agrees v l k a i e)

pub bytes_sets_agrees : (vs l k : List ℕ) (a n i : ℕ) → bytes_at l a n ≡ bytes_at k a n → bytes_at (sets l i vs) a n ≡ bytes_at (sets k i vs) a n
bytes_sets_agrees [] l k a n i e = e
bytes_sets_agrees (v ∷ vs) l k a n i e = bytes_sets_agrees vs (set l i v) (set k i v) a n (suc i) (bytes_set_agrees v l k a i n e)
