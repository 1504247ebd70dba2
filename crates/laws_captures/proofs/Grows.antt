-- A byte appends what it finishes, with the place of its start byte, and the places of what stood there before stay.
use Prim.Native.Nat.{ℕ, ◌+◌}
use mathlib.Core.Path.{◌≡◌, refl, sym, ap, ◌∙◌}
use mathlib.Core.List.{List, [], ◌∷◌, ◌++◌, append_assoc, append-nil, map, map-append}
use mathlib.Core.Bool.{Bool, true, false}
use native.Mathlib.Omega.{arith}
use borrow.Author.Tests.{le-ltb}
use lib.ListN.{length-map}
use lib.Dec.{eqb}
use Rattle.document.specs.Pairing.{Token, start, literal, Placed, paired, until_start, width, opened_at}
use Rattle.document.specs.Kinds.{has_length_byte, fast_length}
use Rattle.document.specs.Message.{whole_message, after_length_byte, heard_at}
use Rattle.document.proofs.Cases.{split}
use Rattle.line_wire.proofs.Pairing.{tokens_at, waits_after, paired_last}
use Rattle.line_wire.proofs.Frames.{counted, message}
use Rattle.line_wire.proofs.Grows.{Grown, counted_grows, message_alone}
use Rattle.laws_captures.proofs.Places.{placed, until_start_start}

same : {A : Type 0} (before : List A) → Grown before before
same before = record { more = []; appended = sym (append-nil before); one = omega arith }

-- behind what stays
behind : {A : Type 0} (first : List A) {before after : List A} → Grown before after → Grown (first ++ before) (first ++ after)
behind first g =
    record {
      more = g.more;
      appended = ap (λ l. first ++ l) g.appended ∙ sym (append_assoc first _ g.more);
      one = g.one;
    }

-- shown by part, it grows the same
parted : {A R : Type 0} (shown : A → R) {before after : List A} → Grown before after → Grown (map shown before) (map shown after)
parted shown {before} g =
    record {
      more = map shown g.more;
      appended = ap (map shown) g.appended ∙ map-append shown before g.more;
      one = rw length-map g.one;
    }

-- a literal behind the tokens belongs to the last start, where one stands before it and no whole thing was closed by another
module _ {A : Type 0} (whole : List ℕ → List A) (grows : (ls : List ℕ) (l : ℕ) → Grown (whole ls) (whole (ls ++ (l ∷ [])))) (alone : (c : ℕ) → whole (c ∷ []) ≡ []) where
  -- whether what stands first is closed by a start
  abbrev Closed : List Token → ℕ → Type 0
  Closed ts l = until_start (ts ++ (literal l ∷ [])) ≡ until_start ts

  record Unclosed (ts : List Token) (l : ℕ) : Type 0 where
    longer : until_start (ts ++ (literal l ∷ [])) ≡ until_start ts ++ (l ∷ [])
    none : (place : ℕ) → opened_at whole place ts ≡ []
    none_then : (place : ℕ) → opened_at whole place (ts ++ (literal l ∷ [])) ≡ []

  by_start : {P : Type 0} (ts : List Token) (l : ℕ) → (Closed ts l → P) → (Unclosed ts l → P) → P
  by_start [] l closed unclosed = unclosed (record { longer = refl; none = λ place. refl; none_then = λ place. refl })
  by_start (start ∷ ts) l closed unclosed = closed refl
  by_start (literal k ∷ ts) l closed unclosed =
      by_start ts l
      (λ e. closed (ap (λ (r : List ℕ). k ∷ r) e))
      (λ o.
      unclosed
      (record {
        longer = ap (λ (r : List ℕ). k ∷ r) o.longer;
        none = λ place. o.none (place + width (literal k));
        none_then = λ place. o.none_then (place + width (literal k));
      }))

  abbrev placed_at : ℕ → A → Placed A
  placed_at place a = record { place = place; thing = a }

  literal_grows : (ts : List Token) (l place : ℕ) → Grown (opened_at whole place ts) (opened_at whole place (ts ++ (literal l ∷ [])))
  literal_grows [] l place = same []
  literal_grows (literal k ∷ ts) l place = literal_grows ts l (place + width (literal k))
  literal_grows (start ∷ ts) l place =
      by_start ts l
      (λ closed. rw closed (behind (placed place (whole (until_start ts))) (literal_grows ts l (place + width start))))
      (λ unclosed.
      rw (unclosed.longer, unclosed.none (place + width start), unclosed.none_then (place + width start), append-nil, append-nil)
      (parted (placed_at place) (grows (until_start ts) l)))

  start_grows : (ts : List Token) (b place : ℕ) → Grown (opened_at whole place ts) (opened_at whole place (ts ++ (start ∷ literal b ∷ [])))
  start_grows [] b place = rw (alone b) (same [])
  start_grows (literal k ∷ ts) b place = start_grows ts b (place + width (literal k))
  start_grows (start ∷ ts) b place =
      rw (until_start_start ts (literal b ∷ [])) (behind (placed place (whole (until_start ts))) (start_grows ts b (place + width start)))

  tokens_grow : (waiting : Bool) (ts : List Token) (b : ℕ) → Grown (opened_at whole 0 ts) (opened_at whole 0 (ts ++ tokens_at waiting b))
  tokens_grow true ts b = split (eqb b 0x2B) (λ plus. rw plus (literal_grows ts 0x2B 0)) (λ other. rw other (start_grows ts b 0))
  tokens_grow false ts b = split (eqb b 0x2B) (λ plus. rw (plus, append-nil) (same (opened_at whole 0 ts))) (λ other. rw other (literal_grows ts b 0))

  placed_grows : (bs : List ℕ) (b : ℕ) → Grown (opened_at whole 0 (paired bs)) (opened_at whole 0 (paired (bs ++ (b ∷ []))))
  placed_grows bs b = rw (paired_last bs b) (tokens_grow (waits_after bs) (paired bs) b)

-- ---- messages

-- no data and no sum byte are there yet
counted_none : {A : Type 0} (make : List ℕ → ℕ → A) (n : ℕ) → counted make n [] ≡ []
counted_none make n = rw (le-ltb n 0 (omega arith)) refl

length_byte_grows : (c : ℕ) (ls : List ℕ) (l : ℕ) → Grown (after_length_byte c ls) (after_length_byte c (ls ++ (l ∷ [])))
length_byte_grows c [] l = rw (counted_none (message c) l) (same [])
length_byte_grows c (n ∷ ls) l = counted_grows (message c) n ls l

message_grows : (ls : List ℕ) (l : ℕ) → Grown (whole_message ls) (whole_message (ls ++ (l ∷ [])))
message_grows [] l = rw (message_alone l) (same [])
message_grows (c ∷ ls) l =
    split (has_length_byte c)
    (λ standard. rw standard (length_byte_grows c ls l))
    (λ fast. rw fast (counted_grows (message c) (fast_length c) ls l))

pub heard_at_grows : (bs : List ℕ) (b : ℕ) → Grown (heard_at bs) (heard_at (bs ++ (b ∷ [])))
unfolding heard_at
heard_at_grows bs b = placed_grows whole_message message_grows message_alone bs b
