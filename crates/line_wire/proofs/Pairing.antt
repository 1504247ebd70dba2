-- Laws on the pairing, a byte at a time: the bytes before a place matter only by whether a 0x2B waits there.
use Prim.Native.Nat.{ℕ}
use mathlib.Core.Path.{◌≡◌, refl, sym, ap, subst, ◌∙◌}
use mathlib.Core.List.{List, [], ◌∷◌, ◌++◌, append_assoc, append-nil, map, foldl}
use mathlib.Core.Bool.{Bool, true, false, cond, not}
use borrow.Author.Tests.{eqb-true}
use lib.Dec.{eqb}
use Rattle.document.specs.Doubling.{stuffed}
use Rattle.document.specs.Pairing.{Token, start, literal, paired, until_start, opened}
use Rattle.document.proofs.Cases.{split}

-- whether a 0x2B waits behind the byte b, where one waited before it or not
abbrev pub waits_behind : Bool → ℕ → Bool
waits_behind waiting b = cond (eqb b 0x2B) (not waiting) false

-- the tokens of the bytes to come, where a 0x2B waits before them or not
abbrev pub paired_from : Bool → List ℕ → List Token
paired_from true bs = paired (0x2B ∷ bs)
paired_from false bs = paired bs

-- what the byte b brings
abbrev pub tokens_at : Bool → ℕ → List Token
tokens_at true b = cond (eqb b 0x2B) (literal 0x2B ∷ []) (start ∷ literal b ∷ [])
tokens_at false b = cond (eqb b 0x2B) [] (literal b ∷ [])

pub paired_none : (waiting : Bool) → paired_from waiting [] ≡ []
paired_none true = refl
paired_none false = refl

pub paired_literal : (b : ℕ) (bs : List ℕ) → eqb b 0x2B ≡ false → paired (b ∷ bs) ≡ literal b ∷ paired bs
paired_literal b [] other = simp other
paired_literal b (c ∷ cs) other = simp other

pub paired_byte : (waiting : Bool) (b : ℕ) (bs : List ℕ) →
    paired_from waiting (b ∷ bs) ≡ tokens_at waiting b ++ paired_from (waits_behind waiting b) bs
paired_byte true b bs = split (eqb b 0x2B) (λ plus. simp plus) (λ other. simp other)
paired_byte false b bs =
    split (eqb b 0x2B)
    (λ plus.
    subst (λ (k : ℕ). paired_from false (k ∷ bs) ≡ tokens_at false k ++ paired_from (waits_behind false k) bs)
    (sym (eqb-true b 0x2B plus)) refl)
    (λ other. simp (other, paired_literal b bs other))

-- ---- whether a 0x2B waits behind bytes
unfoldable pub waits_after : List ℕ → Bool
waits_after bs = foldl waits_behind false bs

pub reset : waits_after [] ≡ false
unfolding waits_after
reset = refl

paired_append : (bs cs : List ℕ) (waiting : Bool) →
    paired_from waiting (bs ++ cs) ≡ paired_from waiting bs ++ paired_from (foldl waits_behind waiting bs) cs
paired_append [] cs waiting = rw (paired_none waiting) refl
paired_append (b ∷ bs) cs waiting =
    rw (paired_byte waiting b (bs ++ cs), paired_byte waiting b bs, paired_append bs cs (waits_behind waiting b))
    (sym (append_assoc (tokens_at waiting b) (paired_from (waits_behind waiting b) bs) (paired_from (foldl waits_behind
    (waits_behind waiting b) bs) cs)))

-- where none waits, what follows is paired by itself
pub paired_settled : (bs cs : List ℕ) → waits_after bs ≡ false → paired (bs ++ cs) ≡ paired bs ++ paired cs
unfolding waits_after
paired_settled bs cs settled = rw settled at (paired_append bs cs false)

-- what the last byte brings stands behind all the rest
pub paired_last : (bs : List ℕ) (b : ℕ) → paired (bs ++ (b ∷ [])) ≡ paired bs ++ tokens_at (waits_after bs) b
unfolding waits_after
paired_last bs b =
    let waiting = foldl waits_behind false bs in
    paired_append bs (b ∷ []) false
    ∙ ap (λ (ts : List Token). paired bs ++ ts) (paired_byte waiting b [] ∙ rw (paired_none (waits_behind waiting b)) (append-nil (tokens_at waiting b)))

-- ---- a start and stuffed literals
abbrev pub framed : ℕ → List ℕ → List ℕ
framed c ls = 0x2B ∷ c ∷ stuffed ls

pub paired_stuffed : (ls bs : List ℕ) → paired (stuffed ls ++ bs) ≡ map literal ls ++ paired bs
paired_stuffed [] bs = refl
paired_stuffed (l ∷ ls) bs =
    split (eqb l 0x2B)
    (λ plus. simp (eqb-true l 0x2B plus, paired_stuffed ls bs))
    (λ other. rw (other, paired_literal l (stuffed ls ++ bs) other, paired_stuffed ls bs) refl)

pub until_start_literals : (ls : List ℕ) → until_start (map literal ls) ≡ ls
until_start_literals [] = refl
until_start_literals (l ∷ ls) = ap (λ (r : List ℕ). l ∷ r) (until_start_literals ls)

module _ {A : Type 0} (whole : List ℕ → List A) where
  pub opened_literals : (ls : List ℕ) → opened whole (map literal ls) ≡ []
  opened_literals [] = refl
  opened_literals (l ∷ ls) = opened_literals ls

  until_start_start : (ts us : List Token) → until_start (ts ++ start ∷ us) ≡ until_start ts
  until_start_start [] us = refl
  until_start_start (start ∷ ts) us = refl
  until_start_start (literal l ∷ ts) us = ap (λ (r : List ℕ). l ∷ r) (until_start_start ts us)

  -- a start ends what stands before it
  pub opened_start : (ts us : List Token) → opened whole (ts ++ start ∷ us) ≡ opened whole ts ++ opened whole (start ∷ us)
  opened_start [] us = refl
  opened_start (start ∷ ts) us =
      rw (
        until_start_start ts us,
        opened_start ts us,
      ) (sym (append_assoc (whole (until_start ts)) (opened whole ts) (opened whole (start ∷ us))))
  opened_start (literal l ∷ ts) us = opened_start ts us

  -- behind bytes that leave none waiting, a start and its literals add what these make, and so they do where a 0x2B
  -- waits behind them
  pub opened_framed : (bs : List ℕ) (c : ℕ) (ls tail : List ℕ) → waits_after bs ≡ false → eqb c 0x2B ≡ false →
      paired tail ≡ [] →
      opened whole (paired (bs ++ (framed c ls ++ tail))) ≡ opened whole (paired bs) ++ whole (c ∷ ls)
  opened_framed bs c ls tail settled other quiet =
      let tokens : paired (framed c ls ++ tail) ≡ start ∷ literal c ∷ map literal ls =
      rw (other, paired_stuffed ls tail, quiet, append-nil) refl in
      rw (
        paired_settled bs (framed c ls ++ tail) settled,
        tokens,
        opened_start (paired bs) (literal c ∷ map literal ls),
        until_start_literals ls,
        opened_literals ls,
        append-nil,
      ) refl
