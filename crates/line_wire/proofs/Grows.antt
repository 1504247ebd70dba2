-- A byte appends what it finishes, at most one thing, and nothing that stood there before changes.
use Prim.Native.Nat.{ℕ, ◌≤◌, ◌<◌}
use mathlib.Core.Path.{◌≡◌, refl, sym, ap, ◌∙◌}
use mathlib.Core.List.{List, [], ◌∷◌, ◌++◌, append_assoc, append-nil}
use mathlib.Core.Bool.{Bool, true, false, cond}
use native.Mathlib.Omega.{arith}
use borrow.Author.Tests.{ltb-true, lt-ltb, le-ltb}
use lib.ListN.{length, take, get_or, length-append, get_or-append}
use lib.Seq.{drop-append_seam, take-append-le}
use lib.Dec.{ltb, eqb}
use Rattle.document.specs.Pairing.{Token, start, literal, paired, until_start, opened}
use Rattle.document.specs.Kinds.{has_length_byte, fast_length}
use Rattle.document.specs.Message.{whole_message, after_length_byte, heard, finished_by}
use Rattle.document.specs.Numbers.{is_error}
use Rattle.document.specs.Answer.{Reading, whole_answer, answers_heard, answer_finished_by}
use Rattle.document.proofs.Cases.{split}
use Rattle.line_wire.proofs.Pairing.{tokens_at, waits_after, paired_last, opened_start}
use Rattle.line_wire.proofs.Machine.{found_by}
use Rattle.line_wire.proofs.Frames.{counted, message}

pub record Grown {A : Type 0} (before after : List A) : Type 0 where
  pub more : List A
  pub appended : after ≡ before ++ more
  pub one : length more ≤ 1

same : {A : Type 0} (before : List A) → Grown before before
same before = record { more = []; appended = sym (append-nil before); one = omega arith }

-- behind what stays
behind : {A : Type 0} (first : List A) {before after : List A} → Grown before after → Grown (first ++ before) (first ++ after)
behind first g =
    record {
      more = g.more;
      appended = ap (λ l. first ++ l) g.appended ∙ sym (append_assoc first _ g.more);
      one = g.one;
    }

-- ---- a start and its literals, of which a further one comes

module _ {A : Type 0} (make : List ℕ → ℕ → A) (n : ℕ) (ls : List ℕ) (l : ℕ) where
  counted_one : length (counted make n (ls ++ (l ∷ []))) ≤ 1
  counted_one =
      split (ltb n (length (ls ++ (l ∷ [])))) (λ whole. rw whole (omega arith)) (λ short. rw short (omega arith))

  pub counted_grows : Grown (counted make n ls) (counted make n (ls ++ (l ∷ [])))
  counted_grows =
      split (ltb n (length ls))
      (λ whole.
      let room = ltb-true n (length ls) whole in
      let longer : n < length (ls ++ (l ∷ [])) = simp length-append (omega (arith, room)) in
      rw (whole, lt-ltb n (length (ls ++ (l ∷ []))) longer, take-append-le n ls (l ∷ []) (omega (arith, room)), get_or-append ls (l ∷ []) 0 n room)
      (same (make (take n ls) (get_or ls n 0) ∷ [])))
      (λ short. rw short (record { more = counted make n (ls ++ (l ∷ [])); appended = refl; one = counted_one }))

-- a literal behind the tokens belongs to the last start, where one stands before it and no whole thing was closed by another
module _ {A : Type 0} (whole : List ℕ → List A) (grows : (ls : List ℕ) (l : ℕ) → Grown (whole ls) (whole (ls ++ (l ∷ [])))) (alone : (c : ℕ) → whole (c ∷ []) ≡ []) where
  -- whether what stands first is closed by a start
  abbrev Closed : List Token → ℕ → Type 0
  Closed ts l = until_start (ts ++ (literal l ∷ [])) ≡ until_start ts

  record Unclosed (ts : List Token) (l : ℕ) : Type 0 where
    longer : until_start (ts ++ (literal l ∷ [])) ≡ until_start ts ++ (l ∷ [])
    none : opened whole ts ≡ []
    none_then : opened whole (ts ++ (literal l ∷ [])) ≡ []

  by_start : {P : Type 0} (ts : List Token) (l : ℕ) → (Closed ts l → P) → (Unclosed ts l → P) → P
  by_start [] l closed unclosed = unclosed (record { longer = refl; none = refl; none_then = refl })
  by_start (start ∷ ts) l closed unclosed = closed refl
  by_start (literal k ∷ ts) l closed unclosed =
      by_start ts l
      (λ e. closed (ap (λ (r : List ℕ). k ∷ r) e))
      (λ o. unclosed (record { longer = ap (λ (r : List ℕ). k ∷ r) o.longer; none = o.none; none_then = o.none_then }))

  literal_grows : (ts : List Token) (l : ℕ) → Grown (opened whole ts) (opened whole (ts ++ (literal l ∷ [])))
  literal_grows [] l = same []
  literal_grows (literal k ∷ ts) l = literal_grows ts l
  literal_grows (start ∷ ts) l =
      by_start ts l
      (λ closed. rw closed (behind (whole (until_start ts)) (literal_grows ts l)))
      (λ unclosed. rw (unclosed.longer, unclosed.none, unclosed.none_then, append-nil, append-nil) (grows (until_start ts) l))

  start_grows : (ts : List Token) (b : ℕ) → Grown (opened whole ts) (opened whole (ts ++ (start ∷ literal b ∷ [])))
  start_grows ts b = rw (opened_start whole ts (literal b ∷ []), alone b, append-nil) (same (opened whole ts))

  tokens_grow : (waiting : Bool) (ts : List Token) (b : ℕ) → Grown (opened whole ts) (opened whole (ts ++ tokens_at waiting b))
  tokens_grow true ts b = split (eqb b 0x2B) (λ plus. rw plus (literal_grows ts 0x2B)) (λ other. rw other (start_grows ts b))
  tokens_grow false ts b = split (eqb b 0x2B) (λ plus. rw (plus, append-nil) (same (opened whole ts))) (λ other. rw other (literal_grows ts b))

  byte_grows : (bs : List ℕ) (b : ℕ) → Grown (opened whole (paired bs)) (opened whole (paired (bs ++ (b ∷ []))))
  byte_grows bs b = rw (paired_last bs b) (tokens_grow (waits_after bs) (paired bs) b)

  found_more : (bs : List ℕ) (b : ℕ) → found_by whole bs b ≡ (byte_grows bs b).more
  found_more bs b = rw (byte_grows bs b).appended (drop-append_seam (opened whole (paired bs)) (byte_grows bs b).more)

  pub found_appended : (bs : List ℕ) (b : ℕ) → opened whole (paired (bs ++ (b ∷ []))) ≡ opened whole (paired bs) ++ found_by whole bs b
  found_appended bs b = (byte_grows bs b).appended ∙ ap (λ l. opened whole (paired bs) ++ l) (sym (found_more bs b))

  pub found_one : (bs : List ℕ) (b : ℕ) → length (found_by whole bs b) ≤ 1
  found_one bs b = rw (found_more bs b) (byte_grows bs b).one

-- ---- messages

-- no data and no sum byte are there yet
counted_none : {A : Type 0} (make : List ℕ → ℕ → A) (n : ℕ) → counted make n [] ≡ []
counted_none make n = rw (le-ltb n 0 (omega arith)) refl

-- a start and its first literal make no message
pub message_alone : (c : ℕ) → whole_message (c ∷ []) ≡ []
message_alone c =
    split (has_length_byte c) (λ standard. rw standard refl) (λ fast. rw fast (counted_none (message c) (fast_length c)))

length_byte_grows : (c : ℕ) (ls : List ℕ) (l : ℕ) → Grown (after_length_byte c ls) (after_length_byte c (ls ++ (l ∷ [])))
length_byte_grows c [] l = rw (counted_none (message c) l) (same [])
length_byte_grows c (n ∷ ls) l = counted_grows (message c) n ls l

message_grows : (ls : List ℕ) (l : ℕ) → Grown (whole_message ls) (whole_message (ls ++ (l ∷ [])))
message_grows [] l = rw (message_alone l) (same [])
message_grows (c ∷ ls) l =
    split (has_length_byte c)
    (λ standard. rw standard (length_byte_grows c ls l))
    (λ fast. rw fast (counted_grows (message c) (fast_length c) ls l))

pub heard_grows : (bs : List ℕ) (b : ℕ) → heard (bs ++ (b ∷ [])) ≡ heard bs ++ finished_by bs b
unfolding heard finished_by
heard_grows bs b = found_appended whole_message message_grows message_alone bs b

pub finished_one : (bs : List ℕ) (b : ℕ) → length (finished_by bs b) ≤ 1
unfolding heard finished_by
finished_one bs b = found_one whole_message message_grows message_alone bs b

-- ---- answers, at the other end

module _ (expected : ℕ) where
  abbrev reading : ℕ → List ℕ → ℕ → Reading
  reading s body sum = record { answer = record { status = s; body = body }; sum_byte = sum }

  answer_alone : (s : ℕ) → whole_answer expected (s ∷ []) ≡ []
  answer_alone s = counted_none (reading s) (cond (is_error s) 0 expected)

  answer_grows : (ls : List ℕ) (l : ℕ) → Grown (whole_answer expected ls) (whole_answer expected (ls ++ (l ∷ [])))
  answer_grows [] l = rw (answer_alone l) (same [])
  answer_grows (s ∷ ls) l = counted_grows (reading s) (cond (is_error s) 0 expected) ls l

  pub answers_grow : (bs : List ℕ) (b : ℕ) → answers_heard expected (bs ++ (b ∷ [])) ≡ answers_heard expected bs ++ answer_finished_by expected bs b
  unfolding answers_heard answer_finished_by
  answers_grow bs b = found_appended (whole_answer expected) answer_grows answer_alone bs b

  pub answer_one : (bs : List ℕ) (b : ℕ) → length (answer_finished_by expected bs b) ≤ 1
  unfolding answers_heard answer_finished_by
  answer_one bs b = found_one (whole_answer expected) answer_grows answer_alone bs b
