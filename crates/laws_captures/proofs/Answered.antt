-- What a capture lists is answered: one after the other over all that happened, and byte by byte.
use mathlib.Core.Path.{◌≡◌, refl, sym, ap, subst, ◌∙◌}
use mathlib.Core.List.{List, [], ◌∷◌, ◌++◌, append-nil, append_cancel_left, map, map-append, nil≢cons, head-eq_of_cons-eq, tail-eq_of_cons-eq}
use Prim.Native.Nat.{ℕ, ◌<◌, ◌≤◌}
use native.Mathlib.Omega.{arith}
use borrow.Author.Tests.{eqb-true, eqb-false}
use lib.Dec.{eqb}
use lib.ListN.{length, drop, get_or, length-append}
use lib.Seq.{drop-append_seam}
use Rattle.document.specs.Numbers.{sum_wrong, message_too_long}
use Rattle.document.specs.Pairing.{Placed}
use Rattle.document.specs.Message.{Message, on_wire, heard, heard_at, finished_by}
use Rattle.document.specs.Answer.{Answer}
use Rattle.document.specs.Gate.{Gate}
use Rattle.document.specs.Commands.{answered}
use Rattle.document.specs.Happenings.{Happening, Since, after_messages, after, after_all, from_reset}
use Rattle.document.specs.Happenings.Happening.{byte, aside}
use Rattle.document.proofs.Cases.{split}
use Rattle.document.proofs.Happenings.{every_byte_kept}
use Rattle.document.proofs.Places.{heard_at_lem}
use Rattle.document_captures.specs.Captures.{class_of, Entry, entry_of, captured}
use Rattle.line_wire.proofs.Grows.{heard_grows, finished_one}
use Rattle.line_wire.proofs.Half.{whole_on_wire, no_other}
use Rattle.laws_captures.specs.Answered.{class_shown, ClassExactly, Ends, Adds}
use Rattle.laws_captures.specs.Answered.Adds.{nothing, entry}
use Rattle.laws_captures.proofs.Statuses.{status_shows}
use Rattle.laws_captures.proofs.Places.{message_placed}
use Rattle.laws_captures.proofs.Grows.{heard_at_grows}

abbrev class : Entry → ℕ
class e = e.class

abbrev thing : Placed Message → Message
thing p = p.thing

-- ---- all of them, in order

placed_classes : (ps : List (Placed Message)) → map class (map entry_of ps) ≡ map class_of (map thing ps)
placed_classes [] = refl
placed_classes (p ∷ ps) = ap (λ (l : List ℕ). class_of p.thing ∷ l) (placed_classes ps)

classes_heard : (bs : List ℕ) → map class (captured bs) ≡ map class_of (heard bs)
unfolding captured
classes_heard bs = placed_classes (heard_at bs) ∙ ap (map class_of) (heard_at_lem bs)

told_classes : (s : Since) (ms : List Message) → length ms ≤ 1 → map class_shown (after_messages s ms).answers ≡ map class_shown s.answers ++ map class_of ms
told_classes s [] one = sym (append-nil (map class_shown s.answers))
told_classes s (m ∷ []) one =
    map-append class_shown s.answers ((answered s.gate m).answer ∷ [])
    ∙ ap (λ (k : ℕ). map class_shown s.answers ++ (k ∷ [])) (status_shows s.gate m)
told_classes s (m ∷ (n ∷ ms)) one = absurd (omega (arith, one))

-- as many answers as entries, each with the class of its own
abbrev Shown : Since → Type 0
Shown s = map class_shown s.answers ≡ map class (captured s.bytes)

byte_shown : (s : Since) (b : ℕ) → Shown s → Shown (after s (byte b))
byte_shown s b so_far =
    let bs : List ℕ = s.bytes in
    told_classes (record { bytes = bs ++ (b ∷ []); gate = s.gate; answers = s.answers }) (finished_by bs b) (finished_one bs b)
    ∙ ap (λ (l : List ℕ). l ++ map class_of (finished_by bs b)) (so_far ∙ classes_heard bs)
    ∙ sym (map-append class_of (heard bs) (finished_by bs b))
    ∙ ap (map class_of) (sym (heard_grows bs b))
    ∙ sym (classes_heard (bs ++ (b ∷ [])))
    ∙ ap (λ (l : List ℕ). map class (captured l)) (sym (every_byte_kept s b))

all_shown : (hs : List Happening) (s : Since) → Shown s → Shown (after_all s hs)
all_shown [] s so_far = so_far
all_shown (byte b ∷ hs) s so_far = all_shown hs (after s (byte b)) (byte_shown s b so_far)
all_shown (aside a ∷ hs) s so_far = all_shown hs (after s (aside a)) so_far

-- whatever happens beside the bytes
pub capture_answered : (g : Gate) (hs : List Happening)
    → map class_shown (after_all (from_reset g) hs).answers ≡ map (λ (e : Entry). e.class) (captured (after_all (from_reset g) hs).bytes)
unfolding captured heard_at
capture_answered g hs = all_shown hs (from_reset g) refl

-- ---- what a class says of the answer

shown_exactly : (a : Answer) → ClassExactly (class_shown a) a
shown_exactly a =
    split (eqb a.status sum_wrong)
    (λ sum.
    let is = eqb-true a.status sum_wrong sum in
    rw sum
    (record {
      wrong_sum = λ e. is;
      wrong_sum_only = λ e. refl;
      too_long = λ e. absurd (omega (arith, e));
      too_long_only = λ e. absurd (omega (arith, e, is));
    }))
    (λ right.
    let other = eqb-false a.status sum_wrong right in
    split (eqb a.status message_too_long)
    (λ long.
    let is = eqb-true a.status message_too_long long in
    rw (right, long)
    (record {
      wrong_sum = λ e. absurd (omega (arith, e));
      wrong_sum_only = λ e. absurd (other e);
      too_long = λ e. is;
      too_long_only = λ e. refl;
    }))
    (λ short.
    rw (right, short)
    (record {
      wrong_sum = λ e. absurd (omega (arith, e));
      wrong_sum_only = λ e. absurd (other e);
      too_long = λ e. absurd (omega (arith, e));
      too_long_only = λ e. absurd (eqb-false a.status message_too_long short e);
    })))

pub class_exactly : (k : ℕ) (a : Answer) → k ≡ class_shown a → ClassExactly k a
class_exactly k a is = subst (λ (n : ℕ). ClassExactly n a) (sym is) (shown_exactly a)

-- ---- each at the byte where its message ends

-- a list with one more at its end has that one, wherever it is cut
same_last : {A : Type 0} (xs ys : List A) (x y : A) → xs ++ (x ∷ []) ≡ ys ++ (y ∷ []) → x ≡ y
same_last xs ys x y e =
    let long : length xs ≡ length ys = omega (arith, ap length e, length-append xs (x ∷ []), length-append ys (y ∷ [])) in
    let cut : drop (length xs) (xs ++ (x ∷ [])) ≡ drop (length ys) (ys ++ (y ∷ [])) = λ i. drop (long i) (e i) in
    head-eq_of_cons-eq (sym (drop-append_seam xs (x ∷ [])) ∙ cut ∙ drop-append_seam ys (y ∷ []))

module _ (bs : List ℕ) (b : ℕ) where
  abbrev more : List (Placed Message)
  more = (heard_at_grows bs b).more

  -- what it adds with its place is what it finishes
  more_finished : map thing more ≡ finished_by bs b
  more_finished =
      append_cancel_left (heard bs) _ _
      (ap (λ (l : List Message). l ++ map thing more) (sym (heard_at_lem bs))
      ∙ sym (map-append thing (heard_at bs) more)
      ∙ ap (map thing) (sym (heard_at_grows bs b).appended)
      ∙ heard_at_lem (bs ++ (b ∷ []))
      ∙ heard_grows bs b)

  captured_more : captured (bs ++ (b ∷ [])) ≡ captured bs ++ map entry_of more
  unfolding captured
  captured_more = ap (map entry_of) (heard_at_grows bs b).appended ∙ map-append entry_of (heard_at bs) more

  quiet : (ps : List (Placed Message)) → more ≡ ps → map thing ps ≡ [] → captured (bs ++ (b ∷ [])) ≡ captured bs
  quiet [] is none = captured_more ∙ ap (λ (l : List (Placed Message)). captured bs ++ map entry_of l) is ∙ append-nil (captured bs)
  quiet (p ∷ ps) is none = absurd (nil≢cons (sym none))

  module _ (bytes : (i : ℕ) → get_or (bs ++ (b ∷ [])) i 0 < 256) (m : Message) (ms : List Message) (finished : finished_by bs b ≡ m ∷ ms) where
    alone : map thing more ≡ m ∷ []
    alone = more_finished ∙ finished ∙ ap (λ (l : List Message). m ∷ l) (no_other bs b bytes m ms finished)

    only : (ps : List (Placed Message)) → more ≡ ps → map thing ps ≡ m ∷ [] → (p : Placed Message) × (more ≡ p ∷ []) × (p.thing ≡ m)
    only [] is one = absurd (nil≢cons one)
    only (p ∷ []) is one = (p, is, head-eq_of_cons-eq one)
    only (p ∷ (q ∷ ps)) is one = absurd (nil≢cons (sym (tail-eq_of_cons-eq one)))

    abbrev last : Placed Message
    last = (only more refl alone).0

    -- it stands behind all the others, so where the message's start byte stands
    where_it_stands : last ≡ record { place = length (whole_on_wire bs b bytes m ms finished).before; thing = m }
    where_it_stands =
        let whole = whole_on_wire bs b bytes m ms finished in
        same_last (heard_at bs) (heard_at whole.before) last (record { place = length whole.before; thing = m })
        (sym ((heard_at_grows bs b).appended ∙ ap (λ (l : List (Placed Message)). heard_at bs ++ l) (only more refl alone).1)
        ∙ ap heard_at whole.there
        ∙ message_placed m whole.formed whole.before whole.settled)

    listed : captured (bs ++ (b ∷ [])) ≡ captured bs ++ (entry_of last ∷ [])
    listed = captured_more ∙ ap (λ (l : List (Placed Message)). captured bs ++ map entry_of l) (only more refl alone).1

    ended : Ends (bs ++ (b ∷ [])) m (entry_of last)
    ended =
        let whole = whole_on_wire bs b bytes m ms finished in
        record {
          stands =
              (λ i. drop (where_it_stands i).place (whole.there i))
              ∙ drop-append_seam whole.before (on_wire m);
          command = ap (λ (p : Placed Message). p.thing.command) where_it_stands;
        }

    class_shown_lem : (g : Gate) → (entry_of last).class ≡ class_shown (answered g m).answer
    class_shown_lem g = ap (λ (p : Placed Message). class_of p.thing) where_it_stands ∙ sym (status_shows g m)

pub byte_adds : (s : Since) (b : ℕ) → ((i : ℕ) → get_or (s.bytes ++ (b ∷ [])) i 0 < 256) → Adds s b
byte_adds s b bytes = by (finished_by s.bytes b) refl
  where
    then : List Message → Since
    then ms = after_messages (record { bytes = s.bytes ++ (b ∷ []); gate = s.gate; answers = s.answers }) ms

    by : (ms : List Message) → finished_by s.bytes b ≡ ms → Adds s b
    by [] e =
        nothing (quiet s.bytes b (more s.bytes b) refl (more_finished s.bytes b ∙ e)) (ap (λ (l : List Message). (then l).answers) e)
    by (m ∷ ms) e =
        entry m (entry_of (last s.bytes b bytes m ms e)) (listed s.bytes b bytes m ms e) (ended s.bytes b bytes m ms e)
        (ap (λ (l : List Message). (then l).answers) e)
        (class_shown_lem s.bytes b bytes m ms e s.gate)
