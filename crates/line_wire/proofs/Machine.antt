-- A reader of the line takes one byte at a time. If it pairs as the line does, and if each of its states owes what the
-- literals up to the next start will make, then it reports exactly what stands in the pairing of all its bytes, each
-- at its last byte. The receiver of messages and the reader of answers are both such readers.
use Prim.Native.Nat.{ℕ, zero, suc}
use mathlib.Core.Path.{◌≡◌, refl, sym, ◌∙◌, subst}
use mathlib.Core.List.{List, [], ◌∷◌, ◌++◌, append_assoc, append-nil, map, map-append, foldl}
use mathlib.Core.Bool.{Bool, true, false}
use borrow.Author.Tests.{eqb-true}
use lib.ListN.{length, drop, length-map}
use lib.Seq.{drop-append_seam}
use lib.Dec.{eqb}
use Rattle.document.specs.Pairing.{Token, start, literal, paired, until_start, opened}
use Rattle.document.specs.Message.{whole_message, heard, finished_by}
use Rattle.document.specs.Answer.{whole_answer, answers_heard, answer_finished_by}
use Rattle.document.proofs.Cases.{split}
use Rattle.line_wire.proofs.Pairing.{waits_behind, paired_from, paired_none, paired_literal}

-- what the byte b adds to what stands in the pairing of the bytes bs: `finished_by` and `answer_finished_by` are this
abbrev pub found_by : {A : Type 0} → (List ℕ → List A) → List ℕ → ℕ → List A
found_by whole bs b = drop (length (opened whole (paired bs))) (opened whole (paired (bs ++ (b ∷ []))))

-- A reader: `next` and `reports` say what a state does with a byte, `waits` whether a 0x2B waits in it, `owes` what it
-- will yet report of the literals up to the next start; `whole` says what a start and the literals behind it make.
pub record Reads {S R : Type 0}
    (whole : List ℕ → List R)
    (within : S → Type 0)
    (waits : S → Bool)
    (next : S → ℕ → S)
    (reports : S → ℕ → List R)
    (owes : S → List ℕ → List R) : Type 0 where
  pub keeps : (s : S) (b : ℕ) → within s → within (next s b)
  pub pairs : (s : S) (b : ℕ) → within s → waits (next s b) ≡ waits_behind (waits s) b
  pub none : (s : S) → within s → owes s [] ≡ []
  -- a 0x2B that waits changes nothing else
  pub first : (s : S) (ls : List ℕ) → within s → waits s ≡ false →
      (reports s 0x2B ≡ []) × (owes (next s 0x2B) ls ≡ owes s ls)
  -- another byte behind it: a start, and the first literal
  pub opens : (s : S) (b : ℕ) (ls : List ℕ) → within s → waits s ≡ true → eqb b 0x2B ≡ false →
      (reports s b ≡ []) × (owes (next s b) ls ≡ whole (b ∷ ls))
  -- a second 0x2B, or another byte where none waits: a literal
  pub takes : (s : S) (b : ℕ) (ls : List ℕ) → within s → waits s ≡ eqb b 0x2B →
      owes s (b ∷ ls) ≡ reports s b ++ owes (next s b) ls

-- all that is reported of a list of bytes
abbrev pub reported : {S R : Type 0} → (S → ℕ → S) → (S → ℕ → List R) → S → List ℕ → List R
reported next reports s [] = []
reported next reports s (b ∷ bs) = reports s b ++ reported next reports (next s b) bs

reported_append : {S R : Type 0} (next : S → ℕ → S) (reports : S → ℕ → List R) (bs cs : List ℕ) (s : S) →
    reported next reports s (bs ++ cs) ≡ reported next reports s bs ++ reported next reports (foldl next s bs) cs
reported_append next reports [] cs s = refl
reported_append next reports (b ∷ bs) cs s =
    rw (reported_append next reports bs cs (next s b))
    (sym
    (append_assoc (reports s b) (reported next reports (next s b) bs)
    (reported next reports (foldl next (next s b) bs) cs)))

-- what a state will yet report of the tokens to come
abbrev owed : {S R : Type 0} → (List ℕ → List R) → (S → List ℕ → List R) → S → List Token → List R
owed whole owes s ts = owes s (until_start ts) ++ opened whole ts

module _ {S R : Type 0} {whole : List ℕ → List R} {within : S → Type 0} {waits : S → Bool} {next : S → ℕ → S}
    {reports : S → ℕ → List R} {owes : S → List ℕ → List R}
    (reads : Reads whole within waits next reports owes) where
  literal_owed : (s : S) (b : ℕ) (ts : List Token) → within s → waits s ≡ eqb b 0x2B →
      owed whole owes s (literal b ∷ ts) ≡ reports s b ++ owed whole owes (next s b) ts
  literal_owed s b ts ok w =
      rw (reads.takes s b (until_start ts) ok w)
      (append_assoc (reports s b) (owes (next s b) (until_start ts)) (opened whole ts))

  start_owed : (s : S) (b : ℕ) (ts : List Token) → within s → waits s ≡ true → eqb b 0x2B ≡ false →
      owed whole owes s (start ∷ literal b ∷ ts) ≡ reports s b ++ owed whole owes (next s b) ts
  start_owed s b ts ok w other =
      let opens : (reports s b ≡ []) × (owes (next s b) (until_start ts) ≡ whole (b ∷ until_start ts)) =
      reads.opens s b (until_start ts) ok w other in
      rw (reads.none s ok, opens.0, opens.1) refl

  first_owed : (s : S) (ts : List Token) → within s → waits s ≡ false →
      owed whole owes s ts ≡ reports s 0x2B ++ owed whole owes (next s 0x2B) ts
  first_owed s ts ok w = rw ((reads.first s (until_start ts) ok w).0, (reads.first s (until_start ts) ok w).1) refl

  -- one byte: what it reports, and the rest is owed by the next state
  owed_byte : (s : S) (b : ℕ) (bs : List ℕ) → within s →
      owed whole owes s (paired_from (waits s) (b ∷ bs)) ≡ reports s b ++ owed whole owes (next s b) (paired_from
      (waits (next s b)) bs)
  owed_byte s b bs ok =
      let doubled = λ (k : ℕ). owed whole owes s (paired_from (waits s) (k ∷ bs))
      ≡ reports s k ++ owed whole owes (next s k) (paired_from (waits_behind (waits s) k) bs) in
      rw (reads.pairs s b ok)
      (split (waits s)
      (λ w. split (eqb b 0x2B)
      (λ plus. subst doubled (sym (eqb-true b 0x2B plus)) (rw w (literal_owed s 0x2B (paired bs) ok w)))
      (λ other. rw (w, other) (start_owed s b (paired bs) ok w other)))
      (λ w. split (eqb b 0x2B)
      (λ plus. subst doubled (sym (eqb-true b 0x2B plus)) (rw w (first_owed s (paired (0x2B ∷ bs)) ok w)))
      (λ other. rw (w, other, paired_literal b bs other) (literal_owed s b (paired bs) ok (w ∙ sym other)))))

  reported_owed : (bs : List ℕ) (s : S) → within s →
      reported next reports s bs ≡ owed whole owes s (paired_from (waits s) bs)
  reported_owed [] s ok = rw (paired_none, reads.none s ok) refl
  reported_owed (b ∷ bs) s ok = rw (reported_owed bs (next s b) (reads.keeps s b ok)) (sym (owed_byte s b bs ok))

  pub within_after : (bs : List ℕ) (s : S) → within s → within (foldl next s bs)
  within_after [] s ok = ok
  within_after (b ∷ bs) s ok = within_after bs (next s b) (reads.keeps s b ok)

  -- From a state that owes nothing and in which no 0x2B waits:
  module _ (idle : S) (ok : within idle) (settled : waits idle ≡ false)
      (empty : (ls : List ℕ) → owes idle ls ≡ []) where
    -- over any bytes, all that stands in their pairing is reported, in order, and nothing else
    pub reported_all : (bs : List ℕ) → reported next reports idle bs ≡ opened whole (paired bs)
    reported_all bs =
        reported_owed bs idle ok ∙ rw (settled, empty (until_start (paired bs))) refl

    -- and each byte reports what it finishes
    pub reported_at_lem : (bs : List ℕ) (b : ℕ) → reports (foldl next idle bs) b ≡ found_by whole bs b
    reported_at_lem bs b =
        rw (
          ← reported_all bs,
          ← reported_all (bs ++ (b ∷ [])),
          reported_append next reports bs (b ∷ []) idle,
          drop-append_seam,
          append-nil,
        )
        refl

-- ---- what is found, shown by part
pub opened_map : {A R : Type 0} (shown : A → R) (whole : List ℕ → List A) (ts : List Token) →
    opened (λ (ls : List ℕ). map shown (whole ls)) ts ≡ map shown (opened whole ts)
opened_map shown whole [] = refl
opened_map shown whole (start ∷ ts) = rw (opened_map shown whole ts, map-append) refl
opened_map shown whole (literal l ∷ ts) = opened_map shown whole ts

drop_map : {A R : Type 0} (shown : A → R) (n : ℕ) (xs : List A) → drop n (map shown xs) ≡ map shown (drop n xs)
drop_map shown zero xs = refl
drop_map shown (suc n) [] = refl
drop_map shown (suc n) (x ∷ xs) = drop_map shown n xs

pub found_map : {A R : Type 0} (shown : A → R) (whole : List ℕ → List A) (bs : List ℕ) (b : ℕ) →
    found_by (λ (ls : List ℕ). map shown (whole ls)) bs b ≡ map shown (found_by whole bs b)
found_map shown whole bs b =
    let before : List _ = opened whole (paired bs) in
    let all : List _ = opened whole (paired (bs ++ (b ∷ []))) in
    rw (opened_map shown whole (paired bs), opened_map shown whole (paired (bs ++ (b ∷ []))), length-map)
    (drop_map shown (length before) all)

-- ---- the two things that a byte of the line can finish
pub finished_found : (bs : List ℕ) (b : ℕ) → finished_by bs b ≡ found_by whole_message bs b
unfolding finished_by heard
finished_found bs b = refl

pub answer_finished_found : (expected : ℕ) (bs : List ℕ) (b : ℕ) →
    answer_finished_by expected bs b ≡ found_by (whole_answer expected) bs b
unfolding answer_finished_by answers_heard
answer_finished_found expected bs b = refl
