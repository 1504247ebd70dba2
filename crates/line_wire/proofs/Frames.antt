-- Frames: a start, and literals that make one message or answer with the last of them and nothing before.
use Prim.Native.Nat.{ℕ, ◌≤◌, ◌<◌}
use mathlib.Core.Path.{◌≡◌, refl, sym, ◌∙◌, ap}
use mathlib.Core.List.{List, [], ◌∷◌, ◌++◌, append_assoc, append-nil, nil≢cons, head-eq_of_cons-eq, tail-eq_of_cons-eq}
use mathlib.Core.Bool.{true, false, cond, not}
use native.Mathlib.Omega.{arith}
use borrow.Author.Tests.{eqb-true, not-true, lt-ltb, le-ltb}
use lib.ListN.{length, take, get_or, length-append}
use lib.Seq.{take_at, get_or_at, drop-append_seam, drop-length}
use lib.Dec.{ltb, eqb}
use Rattle.document.specs.Doubling.{stuffed}
use Rattle.document.specs.Pairing.{paired, opened}
use Rattle.document.specs.Kinds.{has_length_byte, fast_length}
use Rattle.document.specs.Message.{Message, length_part, length_fits, well_formed, whole_message, after_length_byte}
use Rattle.document.proofs.Cases.{split, and_left, and_right}
use Rattle.line_wire.proofs.Pairing.{waits_after, framed, opened_framed, paired_settled}
use Rattle.line_wire.proofs.Machine.{found_by}

-- The literals c and ls make just a; cut short, they make nothing.
pub record Frame {A : Type 0} (whole : List ℕ → List A) (c : ℕ) (ls : List ℕ) (a : A) : Type 0 where
  pub other : eqb c 0x2B ≡ false
  pub makes : whole (c ∷ ls) ≡ a ∷ []
  pub short : (front : List ℕ) (l : ℕ) (rest : List ℕ) → ls ≡ front ++ (l ∷ rest) → whole (c ∷ front) ≡ []

-- ---- the bytes of stuffed literals, cut short: stuffed literals, and perhaps the first 0x2B of two
record Cut (ls bytes : List ℕ) : Type 0 where
  front : List ℕ
  next : ℕ
  rest : List ℕ
  half : List ℕ
  parts : ls ≡ front ++ (next ∷ rest)
  there : bytes ≡ stuffed front ++ half
  quiet : paired half ≡ []

nothing_left : {P : Type 0} (f : List ℕ) (b : ℕ) (rest : List ℕ) → [] ≡ f ++ (b ∷ rest) → P
nothing_left [] b rest e = absurd (nil≢cons e)
nothing_left (x ∷ f) b rest e = absurd (nil≢cons e)

cut_here : (l : ℕ) (ls : List ℕ) (half : List ℕ) → paired half ≡ [] → Cut (l ∷ ls) half
cut_here l ls half quiet =
    record { front = []; next = l; rest = ls; half = half; parts = refl; there = refl; quiet = quiet }

cut_later : (l : ℕ) (ls f first : List ℕ) → ((more : List ℕ) → stuffed (l ∷ more) ≡ first ++ stuffed more) →
    Cut ls f → Cut (l ∷ ls) (first ++ f)
cut_later l ls f first e c =
    record {
      front = l ∷ c.front;
      next = c.next;
      rest = c.rest;
      half = c.half;
      parts = ap (λ (r : List ℕ). l ∷ r) c.parts;
      there = rw (e c.front, append_assoc, ← c.there) refl;
      quiet = c.quiet;
    }

module _ (l : ℕ) (ls : List ℕ) (later : (f : List ℕ) (b : ℕ) (rest : List ℕ) → stuffed ls ≡ f ++ (b ∷ rest) → Cut ls f) where
  cut_doubled : (f : List ℕ) (b : ℕ) (rest : List ℕ) → eqb l 0x2B ≡ true →
      0x2B ∷ 0x2B ∷ stuffed ls ≡ f ++ (b ∷ rest) → Cut (l ∷ ls) f
  cut_doubled [] b rest plus e = cut_here l ls [] refl
  cut_doubled (x ∷ []) b rest plus e =
      let first : 0x2B ≡ x = head-eq_of_cons-eq e in
      cut_here l ls (x ∷ []) (rw (← first) refl)
  cut_doubled (x ∷ (y ∷ f)) b rest plus e =
      let first : 0x2B ≡ x = head-eq_of_cons-eq e in
      let second : 0x2B ≡ y = head-eq_of_cons-eq (tail-eq_of_cons-eq e) in
      rw (← first, ← second)
      (cut_later l ls f (0x2B ∷ 0x2B ∷ []) (λ more. rw plus refl) (later f b rest (tail-eq_of_cons-eq
      (tail-eq_of_cons-eq e))))

  cut_plain : (f : List ℕ) (b : ℕ) (rest : List ℕ) → eqb l 0x2B ≡ false → l ∷ stuffed ls ≡ f ++ (b ∷ rest) →
      Cut (l ∷ ls) f
  cut_plain [] b rest other e = cut_here l ls [] refl
  cut_plain (x ∷ f) b rest other e =
      let first : l ≡ x = head-eq_of_cons-eq e in
      rw (← first) (cut_later l ls f (l ∷ []) (λ more. rw other refl) (later f b rest (tail-eq_of_cons-eq e)))

cut : (ls f : List ℕ) (b : ℕ) (rest : List ℕ) → stuffed ls ≡ f ++ (b ∷ rest) → Cut ls f
cut [] f b rest e = nothing_left f b rest e
cut (l ∷ ls) f b rest e =
    split (eqb l 0x2B)
    (λ plus. cut_doubled l ls (cut ls) f b rest plus (rw plus at e))
    (λ other. cut_plain l ls (cut ls) f b rest other (rw other at e))

-- ---- a frame behind bytes that leave no 0x2B waiting
module _ {A : Type 0} {whole : List ℕ → List A} {c : ℕ} {ls : List ℕ} {a : A} (frame : Frame whole c ls a) (bs : List ℕ) (settled : waits_after bs ≡ false) where
  opened_all : opened whole (paired (bs ++ framed c ls)) ≡ opened whole (paired bs) ++ (a ∷ [])
  opened_all =
      rw (append-nil (framed c ls), frame.makes) at (opened_framed whole bs c ls [] settled frame.other refl)

  opened_short : (front : List ℕ) (b : ℕ) (rest : List ℕ) → framed c ls ≡ front ++ (b ∷ rest) →
      opened whole (paired (bs ++ front)) ≡ opened whole (paired bs)
  opened_short [] b rest e = rw append-nil refl
  opened_short (x ∷ []) b rest e =
      let first : 0x2B ≡ x = head-eq_of_cons-eq e in
      rw (← first, paired_settled bs (0x2B ∷ []) settled, append-nil) refl
  opened_short (x ∷ (y ∷ front)) b rest e =
      let first : 0x2B ≡ x = head-eq_of_cons-eq e in
      let second : c ≡ y = head-eq_of_cons-eq (tail-eq_of_cons-eq e) in
      let short : Cut ls front = cut ls front b rest (tail-eq_of_cons-eq (tail-eq_of_cons-eq e)) in
      rw (
        ← first,
        ← second,
        short.there,
        opened_framed whole bs c short.front short.half settled frame.other short.quiet,
        frame.short short.front short.next short.rest short.parts,
        append-nil,
      )
      refl

  -- its last byte finds it
  pub found_last : (front : List ℕ) (b : ℕ) → framed c ls ≡ front ++ (b ∷ []) → found_by whole (bs ++ front) b ≡ a ∷ []
  found_last front b e =
      rw (opened_short front b [] e, append_assoc, ← e, opened_all, drop-append_seam) refl

  -- no byte before it finds anything
  pub found_before : (front : List ℕ) (b d : ℕ) (rest : List ℕ) → framed c ls ≡ front ++ (b ∷ d ∷ rest) →
      found_by whole (bs ++ front) b ≡ []
  found_before front b d rest e =
      let longer : framed c ls ≡ (front ++ (b ∷ [])) ++ (d ∷ rest) = e ∙ sym (append_assoc front (b ∷ [])
      (d ∷ rest)) in
      rw (
        opened_short front b (d ∷ rest) e,
        append_assoc,
        opened_short (front ++ (b ∷ [])) d rest longer,
        drop-length,
      ) refl

-- ---- "Data and one sum byte follow.": n data bytes and a sum byte, where they are all there
abbrev pub counted : {A : Type 0} → (List ℕ → ℕ → A) → ℕ → List ℕ → List A
counted make n ls = cond (ltb n (length ls)) (make (take n ls) (get_or ls n 0) ∷ []) []

module _ {A : Type 0} (make : List ℕ → ℕ → A) (n : ℕ) (body : List ℕ) (sum : ℕ) (fits : length body ≡ n) where
  pub counted_whole : counted make n (body ++ (sum ∷ [])) ≡ make body sum ∷ []
  counted_whole =
      let more : n < length (body ++ (sum ∷ [])) = simp length-append (omega arith) in
      rw (
        lt-ltb n (length (body ++ (sum ∷ []))) more,
        take_at body (sum ∷ []) n fits,
        get_or_at body sum [] 0 n fits,
      ) refl

  pub counted_short : (front : List ℕ) (l : ℕ) (rest : List ℕ) → body ++ (sum ∷ []) ≡ front ++ (l ∷ rest) →
      counted make n front ≡ []
  counted_short front l rest e =
      let less : length front ≤ n = omega (arith, simp length-append at (ap length e)) in
      rw (le-ltb n (length front) less) refl

-- ---- a well-formed message is a frame
fast_length_lem : (c n : ℕ) → has_length_byte c ≡ false → length_fits c n ≡ true → n ≡ fast_length c
fast_length_lem c n fast fits = eqb-true n (fast_length c) (rw fast at fits)

-- what follows the command
abbrev pub literals : Message → List ℕ
literals m = length_part m.command m.body ++ m.body ++ (m.sum_byte ∷ [])

abbrev pub message : ℕ → List ℕ → ℕ → Message
message c body sum = record { command = c; body = body; sum_byte = sum }

module _ (m : Message) (formed : well_formed m ≡ true) where
  pub command_other : eqb m.command 0x2B ≡ false
  unfolding well_formed
  command_other =
      not-true _ (and_left (not (eqb m.command 0x2B)) (length_fits m.command (length m.body)) formed)

  message_fits : length_fits m.command (length m.body) ≡ true
  unfolding well_formed
  message_fits = and_right (not (eqb m.command 0x2B)) (length_fits m.command (length m.body)) formed

  message_makes : whole_message (m.command ∷ literals m) ≡ m ∷ []
  message_makes =
      split (has_length_byte m.command)
      (λ standard. rw standard (counted_whole (message m.command) (length m.body) m.body m.sum_byte refl))
      (λ fast. rw fast
      (counted_whole (message m.command) (fast_length m.command) m.body m.sum_byte
      (fast_length_lem _ _ fast message_fits)))

  standard_short : has_length_byte m.command ≡ true → (front : List ℕ) (l : ℕ) (rest : List ℕ) →
      length m.body ∷ m.body ++ (m.sum_byte ∷ []) ≡ front ++ (l ∷ rest) → after_length_byte m.command front ≡ []
  standard_short standard [] l rest e = refl
  standard_short standard (n ∷ front) l rest e =
      rw (← head-eq_of_cons-eq e)
      (counted_short (message m.command) (length m.body) m.body m.sum_byte refl front l rest
      (tail-eq_of_cons-eq e))

  message_short : (front : List ℕ) (l : ℕ) (rest : List ℕ) → literals m ≡ front ++ (l ∷ rest) →
      whole_message (m.command ∷ front) ≡ []
  message_short front l rest e =
      split (has_length_byte m.command)
      (λ standard. rw standard (standard_short standard front l rest (rw standard at e)))
      (λ fast. rw fast
      (counted_short (message m.command) (fast_length m.command) m.body m.sum_byte
      (fast_length_lem _ _ fast message_fits) front l rest (rw fast at e)))

  pub message_frame : Frame whole_message m.command (literals m) m
  message_frame = record { other = command_other; makes = message_makes; short = message_short }
