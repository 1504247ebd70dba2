-- Nothing by half: a byte that finishes a message ends exactly that message on the wire, well-formed and behind a start
-- in the pairing of all bytes, and finishes no other.
use Prim.Native.Nat.{ℕ, ◌<◌, ◌+◌}
use mathlib.Core.Path.{◌≡◌, refl, sym, ◌∙◌}
use mathlib.Core.List.{List, [], ◌∷◌, ◌++◌, nil≢cons, head-eq_of_cons-eq, tail-eq_of_cons-eq}
use mathlib.Core.Bool.{true, false}
use native.Mathlib.Omega.{arith}
use borrow.Author.Tests.{eqb-true, ltb-true, ltb-false, lt-ltb, le-ltb, le-leb, eq-eqb}
use lib.ListN.{length, drop, get_or, length-append}
use lib.Seq.{take_at, get_or_at, get_or-append-add}
use lib.Dec.{ltb, eqb}
use Rattle.document.specs.Doubling.{stuffed}
use Rattle.document.specs.Kinds.{has_length_byte, fast_length}
use Rattle.document.specs.Message.{Message, well_formed, on_wire, whole_message, after_length_byte, of_length, finished_by}
use Rattle.document.proofs.Cases.{split}
use Rattle.line_wire.proofs.Grows.{message_alone}
use Rattle.line_wire.proofs.Pairing.{waits_after, framed}
use Rattle.line_wire.proofs.Machine.{found_by, finished_found}
use Rattle.line_wire.proofs.Frames.{counted, message}
use Rattle.line_wire.proofs.Ends.{Ends, ends}

-- ---- a last literal that completes a count
record Counted {A : Type 0} (make : List ℕ → ℕ → A) (n : ℕ) (front : List ℕ) (l : ℕ) (a : A) (more : List A) : Type 0 where
  all : n ≡ length front
  made : make front l ≡ a
  only : more ≡ []

counted_ends : {A : Type 0} (make : List ℕ → ℕ → A) (n : ℕ) (front : List ℕ) (l : ℕ) (a : A) (more : List A) →
    drop (length (counted make n front)) (counted make n (front ++ (l ∷ []))) ≡ a ∷ more →
    Counted make n front l a more
counted_ends make n front l a more e =
    split (ltb n (length front))
    (λ t. let later : n < length (front ++ (l ∷ [])) = simp length-append (omega (
      arith,
      ltb-true n (length front) t,
    )) in
    absurd (nil≢cons (rw (t, lt-ltb n (length (front ++ (l ∷ []))) later) at e)))
    (λ f. split (ltb n (length (front ++ (l ∷ []))))
    (λ t. let all : n ≡ length front = omega (
      arith,
      ltb-false n (length front) f,
      simp length-append at (ltb-true n (length (front ++ (l ∷ []))) t),
    ) in
    let e' : make front l ∷ [] ≡ a ∷ more = rw (
      f,
      t,
      take_at front (l ∷ []) n (sym all),
      get_or_at front l [] 0 n (sym all),
    ) at e in
    record { all = all; made = head-eq_of_cons-eq e'; only = sym (tail-eq_of_cons-eq e') })
    (λ t. absurd (nil≢cons (rw (f, t) at e))))

-- ---- the literals behind a start that finish a message
record Finishes (c : ℕ) (ls : List ℕ) (m : Message) (more : List Message) : Type 0 where
  sent : framed c ls ≡ on_wire m
  formed : get_or ls 0 0 < 256 → well_formed m ≡ true
  only : more ≡ []

module _ (c : ℕ) (other : eqb c 0x2B ≡ false) (m : Message) (more : List Message) where
  finishes_standard : (front : List ℕ) (l : ℕ) → has_length_byte c ≡ true →
      drop (length (after_length_byte c front)) (after_length_byte c (front ++ (l ∷ []))) ≡ m ∷ more →
      Finishes c (front ++ (l ∷ [])) m more
  unfolding on_wire well_formed
  finishes_standard [] l standard e = absurd (nil≢cons (rw (le-ltb l 0 (omega arith)) at e))
  finishes_standard (n ∷ front) l standard e =
      let counted : Counted (message c) n front l m more = counted_ends (message c) n front l m more e in
      record {
        sent = rw (← counted.made, standard, counted.all) refl;
        formed =
            λ byte. rw (← counted.made, other, standard) (le-leb (length front) 255 (omega (arith, counted.all)));
        only = counted.only;
      }

  finishes_fast : (front : List ℕ) (l : ℕ) → has_length_byte c ≡ false →
      drop (length (of_length c (fast_length c) front)) (of_length c (fast_length c) (front ++ (l ∷ []))) ≡ m ∷ more →
      Finishes c (front ++ (l ∷ [])) m more
  unfolding on_wire well_formed
  finishes_fast front l fast e =
      let counted : Counted (message c) (fast_length c) front l m more = counted_ends (message c)
      (fast_length c) front l m more e in
      record {
        sent = rw (← counted.made, fast) refl;
        formed =
            λ byte. rw (← counted.made, other, fast) (eq-eqb (length front) (fast_length c) (sym counted.all));
        only = counted.only;
      }

  finishes : (front : List ℕ) (l : ℕ) →
      drop (length (whole_message (c ∷ front))) (whole_message (c ∷ front ++ (l ∷ []))) ≡ m ∷ more →
      Finishes c (front ++ (l ∷ [])) m more
  finishes front l e =
      split (has_length_byte c)
      (λ standard. finishes_standard front l standard (rw standard at e))
      (λ fast. finishes_fast front l fast (rw fast at e))

-- the first literal behind the command stands in the bytes as it is
stuffed_first : (ls : List ℕ) → get_or (stuffed ls) 0 0 ≡ get_or ls 0 0
stuffed_first [] = refl
stuffed_first (l ∷ ls) = split (eqb l 0x2B) (λ plus. rw (plus, eqb-true l 0x2B plus) refl) (λ other. rw other refl)

first_byte : (before : List ℕ) (c : ℕ) (ls : List ℕ) →
    get_or (before ++ framed c ls) (length before + 2) 0 ≡ get_or ls 0 0
first_byte before c ls = get_or-append-add before (framed c ls) 2 0 ∙ stuffed_first ls

-- ---- the law
-- These bytes end in a well-formed message on the wire, whose start byte is a start in the pairing of them all.
pub record EndsWith (bytes : List ℕ) (m : Message) : Type 0 where
  pub before : List ℕ
  pub settled : waits_after before ≡ false
  pub there : bytes ≡ before ++ on_wire m
  pub formed : well_formed m ≡ true

module _ (bs : List ℕ) (b : ℕ) (bytes : (i : ℕ) → get_or (bs ++ (b ∷ [])) i 0 < 256) (m : Message) (more : List Message) (finished : finished_by bs b ≡ m ∷ more) where
  found : found_by whole_message bs b ≡ m ∷ more
  found = sym (finished_found bs b) ∙ finished

  ended : Ends whole_message bs b
  ended = ends whole_message message_alone bs b m more found

  finishing : Finishes ended.first (ended.front ++ (ended.last ∷ [])) m more
  finishing = finishes ended.first ended.other m more ended.front ended.last (sym ended.found ∙ found)

  first_is_byte : get_or (ended.front ++ (ended.last ∷ [])) 0 0 < 256
  first_is_byte =
      rw (ended.there, first_byte ended.before ended.first (ended.front ++ (ended.last ∷ [])))
      at (bytes (length ended.before + 2))

  pub whole_on_wire : EndsWith (bs ++ (b ∷ [])) m
  whole_on_wire =
      record {
        before = ended.before;
        settled = ended.settled;
        there = ended.there ∙ rw finishing.sent refl;
        formed = finishing.formed first_is_byte;
      }

  pub no_other : more ≡ []
  no_other = finishing.only
