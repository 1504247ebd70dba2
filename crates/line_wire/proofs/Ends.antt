-- Nothing by half: a byte that finds something ends a start and stuffed literals, all of them its own; and a byte that
-- finds a message ends exactly that message on the wire.
use Prim.Native.Nat.{ℕ}
use mathlib.Core.Path.{◌≡◌, refl, sym, ◌∙◌, ap}
use mathlib.Core.List.{List, [], ◌∷◌, ◌++◌, append_assoc, append-nil, foldl, foldl-append, nil≢cons, head-eq_of_cons-eq, tail-eq_of_cons-eq}
use mathlib.Core.Bool.{Bool, true, false}
use borrow.Author.Tests.{eqb-true}
use lib.ListN.{length, drop, length-append}
use lib.Seq.{drop-append-add, drop-length, drop-nil}
use lib.Dec.{eqb}
use Rattle.document.specs.Doubling.{stuffed}
use Rattle.document.specs.Pairing.{paired, opened}
use Rattle.document.proofs.Cases.{split}
use Rattle.line_wire.proofs.Pairing.{waits_behind, waits_after, reset, framed, paired_stuffed, paired_settled, opened_literals, opened_framed}
use Rattle.line_wire.proofs.Stuffed.{stuffed_cons, stuffed_append}
use Rattle.line_wire.proofs.Machine.{found_by}
use Rattle.line_wire.proofs.Resync.{none_waits, stuffed_settled}

-- ---- where bytes end: among literals that no start opened, or behind a start, and perhaps with a 0x2B that waits
abbrev held_back : Bool → List ℕ
held_back true = 0x2B ∷ []
held_back false = []

data Place (bs : List ℕ) : Type 0 where
  outside : (ls : List ℕ) (waiting : Bool) → bs ≡ stuffed ls ++ held_back waiting → Place bs
  inside : (before : List ℕ) (c : ℕ) (ls : List ℕ) (waiting : Bool) → waits_after before ≡ false → eqb c 0x2B ≡ false →
      bs ≡ before ++ (framed c ls ++ held_back waiting) → Place bs

stuffed_before : (l : ℕ) (bs : List ℕ) → waits_after (stuffed (l ∷ []) ++ bs) ≡ waits_after bs
unfolding waits_after
stuffed_before l bs =
    foldl-append waits_behind false (stuffed (l ∷ [])) bs
    ∙ ap (λ (waiting : Bool). foldl waits_behind waiting bs) (stuffed_settled (l ∷ []))

start_before : (c : ℕ) (bs : List ℕ) → eqb c 0x2B ≡ false → waits_after (0x2B ∷ c ∷ bs) ≡ waits_after bs
unfolding waits_after
start_before c bs other = ap (λ (waiting : Bool). foldl waits_behind waiting bs) (none_waits true c other)

behind_literal : (l : ℕ) (bs : List ℕ) → Place bs → Place (stuffed (l ∷ []) ++ bs)
behind_literal l bs (outside ls waiting e) =
    outside (l ∷ ls) waiting
    (rw (e, stuffed_cons l ls) (sym (append_assoc (stuffed (l ∷ [])) (stuffed ls) (held_back waiting))))
behind_literal l bs (inside before c ls waiting settled other e) =
    inside (stuffed (l ∷ []) ++ before) c ls waiting (stuffed_before l before ∙ settled) other
    (rw e (sym (append_assoc (stuffed (l ∷ [])) before (framed c ls ++ held_back waiting))))

behind_start : (d : ℕ) (bs : List ℕ) → eqb d 0x2B ≡ false → Place bs → Place (0x2B ∷ d ∷ bs)
behind_start d bs other' (outside ls waiting e) =
    inside [] d ls waiting reset other' (rw e refl)
behind_start d bs other' (inside before c ls waiting settled other e) =
    inside (0x2B ∷ d ∷ before) c ls waiting (start_before d before other' ∙ settled) other (rw e refl)

place : (bs : List ℕ) → Place bs
place [] = outside [] false refl
place (b ∷ []) =
    split (eqb b 0x2B)
    (λ plus. outside [] true (rw (eqb-true b 0x2B plus) refl))
    (λ other. outside (b ∷ []) false (rw other refl))
place (b ∷ (c ∷ cs)) =
    split (eqb b 0x2B)
    (λ plus. split (eqb c 0x2B)
    (λ plus'. rw (eqb-true b 0x2B plus, eqb-true c 0x2B plus') (behind_literal 0x2B cs (place cs)))
    (λ other. rw (eqb-true b 0x2B plus) (behind_start c cs other (place cs))))
    (λ other. rw other at (behind_literal b (c ∷ cs) (place (c ∷ cs))))

-- ---- the last byte of a list
snoc_front : (xs ys : List ℕ) (a b : ℕ) → xs ++ (a ∷ []) ≡ ys ++ (b ∷ []) → xs ≡ ys
snoc_front [] [] a b e = refl
snoc_front [] (y ∷ []) a b e = absurd (nil≢cons (tail-eq_of_cons-eq e))
snoc_front [] (y ∷ (z ∷ ys)) a b e = absurd (nil≢cons (tail-eq_of_cons-eq e))
snoc_front (x ∷ []) [] a b e = absurd (nil≢cons (sym (tail-eq_of_cons-eq e)))
snoc_front (x ∷ (z ∷ xs)) [] a b e = absurd (nil≢cons (sym (tail-eq_of_cons-eq e)))
snoc_front (x ∷ xs) (y ∷ ys) a b e = λ i. head-eq_of_cons-eq e i ∷ snoc_front xs ys a b (tail-eq_of_cons-eq e) i

last_off : (bs before xs : List ℕ) (b x : ℕ) → bs ++ (b ∷ []) ≡ before ++ (xs ++ (x ∷ [])) → bs ≡ before ++ xs
last_off bs before xs b x e = snoc_front bs (before ++ xs) b x (e ∙ sym (append_assoc before xs (x ∷ [])))

-- literals are none, or some and a last one
data Last (ls : List ℕ) : Type 0 where
  none : ls ≡ [] → Last ls
  some : (front : List ℕ) (l : ℕ) → ls ≡ front ++ (l ∷ []) → Last ls

last_behind : (l : ℕ) (ls : List ℕ) → Last ls → Last (l ∷ ls)
last_behind l ls (none e) = some [] l (rw e refl)
last_behind l ls (some front k e) = some (l ∷ front) k (rw e refl)

last : (ls : List ℕ) → Last ls
last [] = none refl
last (l ∷ ls) = last_behind l ls (last ls)

-- a last literal's bytes: the first 0x2B of two where it is one, and itself
stuffed_one_byte : (l : ℕ) → stuffed (l ∷ []) ≡ held_back (eqb l 0x2B) ++ (l ∷ [])
stuffed_one_byte l = split (eqb l 0x2B) (λ plus. rw (plus, eqb-true l 0x2B plus) refl) (λ other. rw other refl)

stuffed_last : (front : List ℕ) (l : ℕ) →
    stuffed (front ++ (l ∷ [])) ≡ stuffed front ++ held_back (eqb l 0x2B) ++ (l ∷ [])
stuffed_last front l =
    stuffed_append front (l ∷ [])
    ∙ rw (stuffed_one_byte l) (sym (append_assoc (stuffed front) (held_back (eqb l 0x2B)) (l ∷ [])))

held_quiet : (waiting : Bool) → paired (held_back waiting) ≡ []
held_quiet true = refl
held_quiet false = refl

-- ---- what a byte finds
-- It ends a start, a first literal and others, the last of which is its own.
pub record Ends {A : Type 0} (whole : List ℕ → List A) (bs : List ℕ) (b : ℕ) : Type 0 where
  pub before : List ℕ
  pub settled : waits_after before ≡ false
  pub first : ℕ
  pub other : eqb first 0x2B ≡ false
  pub front : List ℕ
  pub last : ℕ
  pub there : bs ++ (b ∷ []) ≡ before ++ framed first (front ++ (last ∷ []))
  pub found : found_by whole bs b ≡ drop (length (whole (first ∷ front))) (whole (first ∷ front ++ (last ∷ [])))

module _ {A : Type 0} (whole : List ℕ → List A) (alone : (c : ℕ) → whole (c ∷ []) ≡ []) (bs : List ℕ) (b : ℕ) (a : A) (more : List A) (found : found_by whole bs b ≡ a ∷ more) where
  found_nothing : found_by whole bs b ≡ [] → Ends whole bs b
  found_nothing e = absurd (nil≢cons (sym e ∙ found))

  ends_outside : (ls : List ℕ) (waiting : Bool) → bs ++ (b ∷ []) ≡ stuffed ls ++ held_back waiting → Ends whole bs b
  ends_outside ls waiting e =
      found_nothing
      (rw (
        e,
        paired_stuffed ls (held_back waiting),
        held_quiet waiting,
        append-nil,
        opened_literals whole ls,
      ) (drop-nil (length (opened whole (paired bs)))))

  module _ (before : List ℕ) (c : ℕ) (settled : waits_after before ≡ false) (other : eqb c 0x2B ≡ false) where
    ends_waiting : (ls : List ℕ) → bs ++ (b ∷ []) ≡ before ++ (framed c ls ++ (0x2B ∷ [])) → Ends whole bs b
    ends_waiting ls e =
        let same : bs ≡ before ++ (framed c ls ++ []) = last_off bs before
        (framed c ls) b 0x2B e ∙ rw append-nil refl in
        found_nothing
        (rw (
          e,
          opened_framed whole before c ls (0x2B ∷ []) settled other refl,
          same,
          opened_framed whole before c ls [] settled other refl,
        ) (drop-length (opened whole (paired before) ++ whole
        (c ∷ ls))))

    ends_literal : (ls : List ℕ) → bs ++ (b ∷ []) ≡ before ++ framed c ls → Last ls → Ends whole bs b
    ends_literal ls e (none n) =
        let all : bs ++ (b ∷ []) ≡ before ++ (framed c [] ++ []) = rw n at e in
        let short : bs ≡ before ++ (0x2B ∷ []) = last_off bs before (0x2B ∷ []) b c all in
        let quiet : opened whole (paired bs) ≡ opened whole (paired before) =
        rw (short, paired_settled before (0x2B ∷ []) settled, append-nil) refl in
        found_nothing
        (rw (
          all,
          opened_framed whole before c [] [] settled other refl,
          alone c,
          append-nil,
          quiet,
        ) (drop-length (opened whole (paired before))))
    ends_literal ls e (some front l n) =
        let half : List ℕ = held_back (eqb l 0x2B) in
        let all : bs ++ (b ∷ []) ≡ before ++ framed c (front ++ (l ∷ [])) = rw n at e in
        let short : bs ≡ before ++ (framed c front ++ half) =
        last_off bs before (framed c front ++ half) b l (rw (stuffed_last front l) at all) in
        record {
          before = before;
          settled = settled;
          first = c;
          other = other;
          front = front;
          last = l;
          there = all;
          found =
              rw (
                all,
                short,
                opened_framed whole before c front half settled other (held_quiet (eqb l 0x2B)),
                ← append-nil (framed c (front ++ (l ∷ []))),
                opened_framed whole before c (front ++ (l ∷ [])) [] settled other refl,
                length-append,
              )
              (drop-append-add (opened whole (paired before)) (whole (c ∷ front ++ (l ∷ []))) (length (whole
              (c ∷ front))));
        }

  ends_place : Place (bs ++ (b ∷ [])) → Ends whole bs b
  ends_place (outside ls waiting e) = ends_outside ls waiting e
  ends_place (inside before c ls true settled other e) = ends_waiting before c settled other ls e
  ends_place (inside before c ls false settled other e) =
      ends_literal before c settled other ls (rw append-nil at e) (last ls)

  pub ends : Ends whole bs b
  ends = ends_place (place (bs ++ (b ∷ [])))
