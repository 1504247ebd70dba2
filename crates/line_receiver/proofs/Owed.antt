-- What a state of the receiver will yet report of the literals up to the next start.
use Prim.Native.Nat.{ℕ, zero, suc, ◌<◌, ◌≤◌, ◌+◌, ◌-◌, ◌%◌}
use mathlib.Core.Path.{◌≡◌, refl, sym, ◌∙◌}
use mathlib.Core.List.{List, [], ◌∷◌, ◌++◌, map}
use mathlib.Core.Bool.{true, false, cond}
use native.Mathlib.Omega.{arith}
use native.Mathlib.Numerals.{add-one}
use native.Mathlib.Nat.{zero-add, sub-zero}
use borrow.Author.Tests.{ltb-true, lt-ltb, le-ltb, ltb-false}
use lib.Dec.{ltb, eqb, leb-suc-suc}
use lib.ListN.{length, take, get_or, set}
use lib.Seq.{sets, set_out, length-take-le}
use Rattle.document.specs.Sum.{total}
use Rattle.document.specs.Kinds.{has_length_byte, fast_length}
use Rattle.document.specs.Message.{of_length, after_length_byte, whole_message}
use Rattle.document.proofs.Cases.{split}
use Rattle.line_wire.proofs.RightSum.{total_append}
use Rattle.line_wire.proofs.Frames.{message}
use Rattle.line_receiver.specs.declared.Receiver.{Receiver}
use Rattle.line_receiver.specs.declared.Event.TheVariants.{Nothing, Keep}
use Rattle.line_receiver.specs.Bounds.{length_next, data_next, sum_next, sound}
use Rattle.line_receiver.specs.Step.{added, next_phase, more, opened, counted}
use Rattle.line_receiver.specs.Report.{HeldMessage, held, body_after, report_of}
use Rattle.line_receiver.proofs.Sound.{literal_taken, other_phase, by_phase, data_of, sum_of, literal_data, literal_sum, literal_length, literal_outside}
use Rattle.line_receiver.proofs.Body.{kept_front}

-- ---- k data bytes and the sum byte are to come
abbrev rest : ℕ → ℕ → List ℕ → ℕ → ℕ → ℕ → List ℕ → List HeldMessage
rest c n body have sum zero [] = []
rest c n body have sum zero (l ∷ ls) = record { command = c; length = n; kept = take n body; sum = added sum l } ∷ []
rest c n body have sum (suc k) [] = []
rest c n body have sum (suc k) (l ∷ ls) = rest c n (set body have l) (have + 1) (added sum l) k ls

rest_none : (k c n : ℕ) (body : List ℕ) (have sum : ℕ) → rest c n body have sum k [] ≡ []
rest_none zero c n body have sum = refl
rest_none (suc k) c n body have sum = refl

-- said at once
rest_is : (k : ℕ) (ls : List ℕ) (c n : ℕ) (body : List ℕ) (have sum : ℕ) →
    rest c n body have sum k ls
    ≡ cond (ltb k (length ls))
    (record {
      command = c;
      length = n;
      kept = take n (sets body have (take k ls));
      sum = (sum + (total
          (take k ls) + get_or ls k 0)) % 256;
    } ∷ [])
    []
rest_is zero [] c n body have sum = refl
rest_is zero (l ∷ ls) c n body have sum = simp (lt-ltb 0 (suc (length ls)) (omega arith), zero-add)
rest_is (suc k) [] c n body have sum = simp (le-ltb (suc k) 0 (omega arith))
rest_is (suc k) (l ∷ ls) c n body have sum =
    let e : (added sum l + (total (take k ls) + get_or ls k 0)) % 256 ≡ (sum + (l + total
    (take k ls) + get_or ls k 0)) % 256 = omega arith in
    rest_is k ls c n (set body have l) (have + 1) (added sum l) ∙ simp (e, leb-suc-suc, add-one)

-- ---- by phase
abbrev rest_measured : ℕ → List ℕ → ℕ → ℕ → List ℕ → List HeldMessage
rest_measured c body have sum [] = []
rest_measured c body have sum (n ∷ ls) = rest c n body have (added sum n) (n - have) ls

abbrev owes_in : ℕ → ℕ → ℕ → ℕ → ℕ → List ℕ → List ℕ → List HeldMessage
owes_in phase c n have sum body ls =
    cond (eqb phase data_next)
    (rest c n body have sum (n - have) ls)
    (cond (eqb phase sum_next)
    (rest c n body have sum (n - have) ls)
    (cond (eqb phase length_next) (rest_measured c body have sum ls) []))

abbrev pub owes : Receiver → List ℕ → List ℕ → List HeldMessage
owes r body ls = owes_in r.phase r.command r.length r.have r.sum body ls

owes_next : (c n have sum : ℕ) (body ls : List ℕ) →
    owes_in (next_phase have n) c n have sum body ls ≡ rest c n body have sum (n - have) ls
owes_next c n have sum body ls = split (ltb have n) (λ t. rw t refl) (λ f. rw f refl)

module _ (r : Receiver) (body ls : List ℕ) where
  owes_data : eqb r.phase data_next ≡ true →
      owes r body ls ≡ rest r.command r.length body r.have r.sum (r.length - r.have) ls
  owes_data e = rw e refl

  owes_sum : eqb r.phase sum_next ≡ true →
      owes r body ls ≡ rest r.command r.length body r.have r.sum (r.length - r.have) ls
  owes_sum e = rw (other_phase r.phase sum_next data_next e refl, e) refl

  owes_length : eqb r.phase length_next ≡ true →
      owes r body ls ≡ rest_measured r.command body r.have r.sum ls
  owes_length e =
      rw (other_phase r.phase length_next data_next e refl, other_phase r.phase length_next sum_next e refl, e) refl

  owes_outside : eqb r.phase data_next ≡ false → eqb r.phase sum_next ≡ false →
      eqb r.phase length_next ≡ false → owes r body ls ≡ []
  owes_outside d s e = rw (d, s, e) refl

pub owes_none : (r : Receiver) (body : List ℕ) → owes r body [] ≡ []
owes_none r body =
    by_phase r.phase
    (λ e. owes_data r body [] e ∙ rest_none (r.length - r.have) r.command r.length body r.have r.sum)
    (λ e. owes_sum r body [] e ∙ rest_none (r.length - r.have) r.command r.length body r.have r.sum)
    (λ e. owes_length r body [] e)
    (λ d s e. owes_outside r body [] d s e)

-- ---- a literal: what it reports, and the rest is owed by the next state
module _ (body : List ℕ) (full : length body ≡ 64) (have l : ℕ) where
  -- a data byte goes to its place; behind the last place it is not kept
  placed : body_after (cond (ltb have 64) (Keep have l) Nothing) body ≡ set body have l
  placed =
      split (ltb have 64)
      (λ t. rw t refl)
      (λ f. let past : length body ≤ have = omega (arith, ltb-false have 64 f) in rw (
        f,
        set_out body have l past,
      ) refl)

  unreported : report_of (cond (ltb have 64) (Keep have l) Nothing) body ≡ []
  unreported = split (ltb have 64) (λ t. rw t refl) (λ f. rw f refl)

module _ (r : Receiver) (bounds : sound r ≡ true) (body : List ℕ) (full : length body ≡ 64) (l : ℕ) (ls : List ℕ) where
  data_owed : eqb r.phase data_next ≡ true →
      rest r.command r.length body r.have r.sum (r.length - r.have) (l ∷ ls)
      ≡ owes (counted r l) (set body r.have l) ls
  data_owed e =
      let h : r.have < r.length = (data_of r bounds e).1 in
      let k : r.length - r.have ≡ suc (r.length - (r.have + 1)) = omega arith in
      let one : more r.have r.length ≡ r.have + 1 = rw (lt-ltb r.have r.length h) refl in
      rw (k, one) (sym (owes_next r.command r.length (r.have + 1) (added r.sum l) (set body
      r.have l) ls))

  sum_owed : eqb r.phase sum_next ≡ true →
      rest r.command r.length body r.have r.sum (r.length - r.have) (l ∷ ls)
      ≡ record { command = r.command; length = r.length; kept = take r.length body; sum = added r.sum l } ∷ []
  sum_owed e =
      let h : r.have ≡ r.length = (sum_of r bounds e).1 in
      let k : r.length - r.have ≡ 0 = omega arith in
      rw k refl

  pub owes-literal :
      owes r body (l ∷ ls)
      ≡ report_of (literal_taken r l).event body ++ owes (literal_taken r l).next (body_after
      (literal_taken r l).event body) ls
  owes-literal =
      by_phase r.phase
      (λ e. rw (
        literal_data r l e,
        placed body full r.have l,
        unreported body full r.have l,
      ) (owes_data r body (l ∷ ls) e ∙ data_owed e))
      (λ e. rw (literal_sum r l e) (owes_sum r body (l ∷ ls) e ∙ sum_owed e))
      (λ e. rw (literal_length r l e) (owes_length r body (l ∷ ls) e ∙ sym (owes_next r.command l r.have
      (added r.sum l) body ls)))
      (λ d s e. rw (literal_outside r l d s e) (owes_outside r body (l ∷ ls) d s e ∙ sym
      (owes_outside r body ls d s e)))

-- ---- the sum of a message
standard_sum : (c : ℕ) (ds : List ℕ) (k : ℕ) → has_length_byte c ≡ true →
    (held (message c ds k)).sum ≡ (c + (length ds + (total ds + k))) % 256
standard_sum c ds k standard =
    let plain : (held (message c ds k)).sum ≡ (c + (length ds + total (ds ++ (k ∷ [])))) % 256 = rw standard refl in
    plain ∙ omega (arith, total_append ds (k ∷ []))

fast_sum : (c : ℕ) (ds : List ℕ) (k : ℕ) → has_length_byte c ≡ false →
    (held (message c ds k)).sum ≡ (c + (total ds + k)) % 256
fast_sum c ds k fast =
    let plain : (held (message c ds k)).sum ≡ (c + total (ds ++ (k ∷ []))) % 256 = rw fast refl in
    plain ∙ omega (arith, total_append ds (k ∷ []))

-- ---- a start and its command
counted_owed : (c n s : ℕ) (body ls : List ℕ) → length body ≡ 64 →
    (n < length ls →
    (s + (total (take n ls) + get_or ls n 0)) % 256 ≡ (held (message c (take n ls) (get_or ls n 0))).sum) →
    rest c n body 0 s n ls ≡ map held (of_length c n ls)
counted_owed c n s body ls full adds =
    rest_is n ls c n body 0 s
    ∙ split (ltb n (length ls))
    (λ t. let there : n < length ls = ltb-true n (length ls) t in
    let len : length (take n ls) ≡ n = length-take-le n ls (omega arith) in
    let kept : take n (sets body 0 (take n ls)) ≡ take 64 (take n ls) = rw (
      len,
      full,
    ) at (kept_front (take n ls) body) in
    rw t (λ i. record { command = c; length = sym len i; kept = kept i; sum = adds there i } ∷ []))
    (λ f. rw f refl)

standard_owed : (c : ℕ) (body ls : List ℕ) → has_length_byte c ≡ true → length body ≡ 64 →
    rest_measured c body 0 c ls ≡ map held (after_length_byte c ls)
standard_owed c body [] standard full = refl
standard_owed c body (n ∷ ls) standard full =
    rw sub-zero
    (counted_owed c n (added c n) body ls full
    (λ there. let len : length (take n ls) ≡ n = length-take-le n ls (omega arith) in
    sym (standard_sum c (take n ls) (get_or ls n 0) standard ∙ omega arith)))

fast_owed : (c : ℕ) (body ls : List ℕ) → has_length_byte c ≡ false → length body ≡ 64 →
    rest c (fast_length c) body 0 c (fast_length c) ls ≡ map held (of_length c (fast_length c) ls)
fast_owed c body ls fast full =
    counted_owed c (fast_length c) c body ls full
    (λ there. sym (fast_sum c (take (fast_length c) ls) (get_or ls (fast_length c) 0) fast))

pub owes_opened : (c : ℕ) (body ls : List ℕ) → length body ≡ 64 →
    owes (opened c) body ls ≡ map held (whole_message (c ∷ ls))
owes_opened c body ls full =
    split (has_length_byte c)
    (λ standard. rw standard (standard_owed c body ls standard full))
    (λ fast. rw fast
    (owes_next c (fast_length c) 0 c body ls ∙ rw sub-zero (fast_owed c body ls fast full)))
