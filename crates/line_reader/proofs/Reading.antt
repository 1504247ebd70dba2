-- The reader, a byte at a time, and the answers in the pairing of all its bytes: they agree at every byte.
use mathlib.Core.Path.{◌≡◌, refl, sym, ap, ◌∙◌}
use mathlib.Core.Bool.{Bool, true, false, cond}
use mathlib.Core.List.{List, [], ◌∷◌, ◌++◌, map, foldl, append_assoc, append-nil}
use Prim.Native.Nat.{ℕ, suc, ◌+◌, ◌-◌, ◌%◌, ◌≤◌, ◌<◌}
use native.Mathlib.Nat.{zero-add, sub-zero}
use native.Mathlib.Numerals.{add-one}
use native.Mathlib.Omega.{arith}
use borrow.Author.Tests.{eqb-true, le-ltb, lt-ltb, eq-eqb, ne_eqb}
use lib.Dec.{eqb, ltb, leb-suc-suc}
use lib.ListN.{length, take, get_or, length-set}
use lib.Seq.{take-suc-set}
use Rattle.document.specs.Sum.{total}
use Rattle.document.specs.Answer.{Reading, reading_right, whole_answer, answer_finished_by}
use Rattle.document.specs.AnswerReader.{Brought, brought_by, brought}
use Rattle.document.specs.AnswerReader.Brought.{nothing, answer, wrong}
use Rattle.document.proofs.Cases.{split}
use Rattle.line_wire.proofs.Pairing.{waits_behind}
use Rattle.line_wire.proofs.Machine.{Reads, found_by, reported_at_lem, within_after, found_map, answer_finished_found}
use Rattle.line_wire.proofs.Frames.{counted}
use Rattle.line_wire.proofs.RightSum.{total_append}
use Rattle.line_reader.specs.Reader.{AnswerReader, Step, sound, data_length, phase_at, fresh, silent, opened, literal, stepped, turned, reader_after}
use Rattle.line_reader.proofs.Bounds.{phases, data_left, data_all, data_room, fresh_sound, stepped_sound, literal_data, literal_sum, literal_idle, stepped_doubled, stepped_first, stepped_start, stepped_plain}

-- ---- what a reading brings, and what a step reports

abbrev shown : Reading → Brought
shown r = cond (reading_right r) (answer r.answer) wrong

abbrev report_of : Brought → List Brought
report_of nothing = []
report_of (answer a) = answer a ∷ []
report_of wrong = wrong ∷ []

-- the data and the sum byte that are left, behind those that a reader keeps
abbrev judged : ℕ → ℕ → List ℕ → Brought
judged m s body = cond (eqb m 0) (answer (record { status = s; body = body })) wrong

abbrev completed : ℕ → ℕ → List ℕ → List ℕ → ℕ → Brought
completed sum s kept body b = judged ((sum + (total body + b)) % 256) s (kept ++ body)

-- what a state will yet report of the literals up to the next start
abbrev owes_in : ℕ → ℕ → ℕ → List ℕ → ℕ → List ℕ → List Brought
owes_in phase sum s kept left ls = cond (eqb phase 0) [] (counted (completed sum s kept) left ls)

abbrev owes : AnswerReader → List ℕ → List Brought
owes r ls =
    owes_in r.phase r.sum r.status (take r.have r.body) (data_length r.status r.expected - r.have) ls

-- ---- a data byte, and the sum byte

counted_data : (sum s l k : ℕ) (kept ls : List ℕ) →
    counted (completed sum s kept) (suc k) (l ∷ ls) ≡ counted (completed ((sum + l) % 256) s (kept ++ (l ∷ []))) k ls
counted_data sum s l k kept ls =
    let e : (sum + (l + total (take k ls) + get_or ls k 0)) % 256 ≡ ((sum + l) % 256 + (total (take k ls) + get_or ls k 0)) % 256 = omega arith in
    rw (leb-suc-suc (suc k) (length ls), e, append_assoc kept (l ∷ []) (take k ls)) refl

counted_sum : (sum s l : ℕ) (kept ls : List ℕ) →
    counted (completed sum s kept) 0 (l ∷ ls) ≡ judged ((sum + l) % 256) s kept ∷ []
counted_sum sum s l kept ls = rw (lt-ltb 0 (suc (length ls)) (omega arith), zero-add l, append-nil kept) refl

reported_judged : (m s : ℕ) (body : List ℕ) → report_of (judged m s body) ≡ judged m s body ∷ []
reported_judged m s body = split (eqb m 0) (λ e. rw e refl) (λ e. rw e refl)

-- a reader that counts is not idle
busy : (have n : ℕ) → eqb (phase_at have n) 0 ≡ false
busy have n = split (ltb have n) (λ t. rw t refl) (λ f. rw f refl)

module _ (r : AnswerReader) (l : ℕ) (ls : List ℕ) (ok : sound r ≡ true) (room : length r.body ≡ 64) where
  idle_owes : r.phase ≡ 0 → owes r (l ∷ ls) ≡ report_of (literal r l).brings ++ owes (literal r l).next ls
  idle_owes p =
      rw (literal_idle r l (λ e. omega arith) (λ e. omega arith), eq-eqb r.phase 0 p) refl

  data_owes : r.phase ≡ 1 → owes r (l ∷ ls) ≡ report_of (literal r l).brings ++ owes (literal r l).next ls
  data_owes p =
      let n = data_length r.status r.expected in
      let more : n - r.have ≡ suc (n - (r.have + 1)) = omega (arith, data_left r ok p) in
      let inside : r.have < length r.body = omega (arith, data_room r ok p) in
      rw
      (literal_data r l p, ne_eqb r.phase 0 (λ e. omega arith), busy (r.have + 1) n, more, counted_data r.sum r.status l (n - (r.have + 1)) (take r.have r.body) ls, add-one r.have, take-suc-set r.body r.have l inside)
      refl

  sum_owes : r.phase ≡ 2 → owes r (l ∷ ls) ≡ report_of (literal r l).brings ++ owes (literal r l).next ls
  sum_owes p =
      let none : data_length r.status r.expected - r.have ≡ 0 = omega (arith, data_all r ok p) in
      rw
      (literal_sum r l p, ne_eqb r.phase 0 (λ e. omega arith), none, counted_sum r.sum r.status l (take r.have r.body) ls, reported_judged ((r.sum + l) % 256) r.status (take r.have r.body))
      refl

  literal_owes : owes r (l ∷ ls) ≡ report_of (literal r l).brings ++ owes (literal r l).next ls
  literal_owes = phases r ok idle_owes data_owes sum_owes

-- a start, and the status behind it
opened_owes : (r : AnswerReader) (s : ℕ) (ls : List ℕ) → owes (opened r s) ls ≡ map shown (whole_answer r.expected (s ∷ ls))
opened_owes r s ls =
    let n = data_length s r.expected in
    rw (busy 0 n, sub-zero n)
    (split (ltb n (length ls))
    (λ t. let e : s + (total (take n ls) + get_or ls n 0) ≡ s + total (take n ls ++ (get_or ls n 0 ∷ [])) = omega (arith, total_append (take n ls) (get_or ls n 0 ∷ [])) in
    rw (t, e) refl)
    (λ f. rw f refl))

-- ---- what no byte changes, and what waits behind it

record Kept (r q : AnswerReader) : Type 0 where
  body : length q.body ≡ length r.body
  expected : q.expected ≡ r.expected

literal_keeps : (r : AnswerReader) (l : ℕ) → sound r ≡ true → Kept r (literal r l).next
literal_keeps r l ok =
    phases r ok
    (λ p. rw (literal_idle r l (λ e. omega arith) (λ e. omega arith)) (record { body = refl; expected = refl }))
    (λ p. rw (literal_data r l p) (record { body = length-set r.body r.have l; expected = refl }))
    (λ p. rw (literal_sum r l p) (record { body = refl; expected = refl }))

literal_settles : (r : AnswerReader) (l : ℕ) → sound r ≡ true → (literal r l).next.waiting ≡ 0
literal_settles r l ok =
    phases r ok
    (λ p. rw (literal_idle r l (λ e. omega arith) (λ e. omega arith)) refl)
    (λ p. rw (literal_data r l p) refl)
    (λ p. rw (literal_sum r l p) refl)

stepped_keeps : (r : AnswerReader) (b : ℕ) → sound r ≡ true → Kept r (stepped r b).next
stepped_keeps r b ok =
    split (eqb b 0x2B)
    (λ p. split (eqb r.waiting 1)
    (λ w. rw (stepped_doubled r b p w) (literal_keeps r 0x2B ok))
    (λ w. rw (stepped_first r b p w) (record { body = refl; expected = refl })))
    (λ p. split (eqb r.waiting 1)
    (λ w. rw (stepped_start r b p w) (record { body = refl; expected = refl }))
    (λ w. rw (stepped_plain r b p w) (literal_keeps r b ok)))

abbrev waits : AnswerReader → Bool
waits r = eqb r.waiting 1

stepped_pairs : (r : AnswerReader) (b : ℕ) → sound r ≡ true → waits (stepped r b).next ≡ waits_behind (waits r) b
stepped_pairs r b ok =
    split (eqb b 0x2B)
    (λ p. split (eqb r.waiting 1)
    (λ w. rw (stepped_doubled r b p w, literal_settles r 0x2B ok, p, w) refl)
    (λ w. rw (stepped_first r b p w, p, w) refl))
    (λ p. split (eqb r.waiting 1)
    (λ w. rw (stepped_start r b p w, p) refl)
    (λ w. rw (stepped_plain r b p w, literal_settles r b ok, p) refl))

stepped_takes : (r : AnswerReader) (b : ℕ) (ls : List ℕ) → sound r ≡ true → length r.body ≡ 64 → waits r ≡ eqb b 0x2B →
    owes r (b ∷ ls) ≡ report_of (stepped r b).brings ++ owes (stepped r b).next ls
stepped_takes r b ls ok room w =
    split (eqb b 0x2B)
    (λ p. let same : b ≡ 0x2B = eqb-true b 0x2B p in
    rw (stepped_doubled r b p (w ∙ p), same) (literal_owes r 0x2B ls ok room))
    (λ p. rw (stepped_plain r b p (w ∙ p)) (literal_owes r b ls ok room))

-- ---- the reader is a reader of the line

record Within (n : ℕ) (r : AnswerReader) : Type 0 where
  ok : sound r ≡ true
  room : length r.body ≡ 64
  reads : r.expected ≡ n

abbrev next : AnswerReader → ℕ → AnswerReader
next r b = (stepped r b).next

abbrev reports : AnswerReader → ℕ → List Brought
reports r b = report_of (stepped r b).brings

abbrev whole : ℕ → List ℕ → List Brought
whole n ls = map shown (whole_answer n ls)

within_next : (n : ℕ) (r : AnswerReader) (b : ℕ) → Within n r → Within n (next r b)
within_next n r b w =
    let kept = stepped_keeps r b w.ok in
    record { ok = stepped_sound r b w.ok; room = kept.body ∙ w.room; reads = kept.expected ∙ w.reads }

owes_none : (r : AnswerReader) → owes r [] ≡ []
owes_none r =
    let left = data_length r.status r.expected - r.have in
    split (eqb r.phase 0) (λ e. rw e refl) (λ e. rw (e, le-ltb left 0 (omega arith)) refl)

stepped_quiet : (r : AnswerReader) (b : ℕ) (ls : List ℕ) (q : AnswerReader) → stepped r b ≡ silent q →
    (report_of (stepped r b).brings ≡ []) × (owes (stepped r b).next ls ≡ owes q ls)
stepped_quiet r b ls q e = (ap (λ (s : Step). report_of s.brings) e, ap (λ (s : Step). owes s.next ls) e)

reads_line : (n : ℕ) → Reads (whole n) (Within n) waits next reports owes
reads_line n =
    record {
      keeps = within_next n;
      pairs = λ r b w. stepped_pairs r b w.ok;
      none = λ r w. owes_none r;
      first = λ r ls w f. stepped_quiet r 0x2B ls (turned r 1 r.phase) (stepped_first r 0x2B refl f);
      opens = λ r b ls w t other.
          let quiet = stepped_quiet r b ls (opened r b) (stepped_start r b other t) in
          (quiet.0, quiet.1 ∙ opened_owes r b ls ∙ ap (λ (m : ℕ). whole m (b ∷ ls)) w.reads);
      takes = λ r b ls w e. stepped_takes r b ls w.ok w.room e;
    }

-- ---- from the beginning of a reading on

-- what a report says, of a step and of a reading
abbrev heard : List Brought → Brought
heard [] = nothing
heard (x ∷ xs) = x

heard_report : (x : Brought) → heard (report_of x) ≡ x
heard_report nothing = refl
heard_report (answer a) = refl
heard_report wrong = refl

heard_shown : (rs : List Reading) → heard (map shown rs) ≡ brought_by rs
heard_shown [] = refl
heard_shown (r ∷ rs) = refl

fresh_within : (n : ℕ) → n ≤ 64 → Within n (fresh n)
fresh_within n few = record { ok = fresh_sound n few; room = refl; reads = refl }

-- after any bytes since a reading of n data began, a byte brings what the document says
pub reader_brings : (n : ℕ) (bs : List ℕ) (b : ℕ) → n ≤ 64 → (stepped (reader_after n bs) b).brings ≡ brought n bs b
unfolding reader_after brought
reader_brings n bs b few =
    let at : reports (foldl next (fresh n) bs) b ≡ found_by (whole n) bs b =
    reported_at_lem (reads_line n) (fresh n) (fresh_within n few) refl (λ ls. refl) bs b in
    sym (heard_report (stepped (foldl next (fresh n) bs) b).brings)
    ∙ ap heard (at ∙ found_map shown (whole_answer n) bs b)
    ∙ rw (← answer_finished_found n bs b) (heard_shown (answer_finished_by n bs b))

pub reader_within : (n : ℕ) (bs : List ℕ) → n ≤ 64 → sound (reader_after n bs) ≡ true
unfolding reader_after
reader_within n bs few = (within_after (reads_line n) bs (fresh n) (fresh_within n few)).ok
