-- Where a message's start byte stands: behind bytes that leave no 0x2B waiting, a start is found at the place of its byte.
use mathlib.Core.Path.{◌≡◌, refl, sym, ap, ◌∙◌}
use mathlib.Core.Bool.{Bool, true, false}
use mathlib.Core.List.{List, [], ◌∷◌, ◌++◌, append_assoc, append-nil, map, foldl}
use Prim.Native.Nat.{ℕ, ◌+◌}
use native.Mathlib.Omega.{arith}
use lib.Dec.{eqb}
use lib.ListN.{length}
use Rattle.document.specs.Doubling.{stuffed}
use Rattle.document.specs.Pairing.{Token, start, literal, Placed, paired, until_start, width, opened_at}
use Rattle.document.specs.Message.{Message, whole_message, on_wire, heard_at, well_formed}
use Rattle.document.proofs.Cases.{split, neither}
use Rattle.line_wire.proofs.Pairing.{waits_behind, waits_after, framed, paired_settled, paired_stuffed, until_start_literals}
use Rattle.line_wire.proofs.Frames.{literals, message_frame}

abbrev pub placed : {A : Type 0} → ℕ → List A → List (Placed A)
placed place xs = map (λ a. record { place = place; thing = a }) xs

-- how many bytes tokens took
abbrev widths : List Token → ℕ
widths [] = 0
widths (t ∷ ts) = width t + widths ts

-- where none waits, all of them
taken_all : (bs : List ℕ) → foldl waits_behind false bs ≡ false → widths (paired bs) ≡ length bs
taken_all [] settled = refl
taken_all (b ∷ []) settled =
    split (eqb b 0x2B)
    (λ plus. neither (sym settled ∙ rw plus refl))
    (λ other. rw (other, other) refl)
taken_all (b ∷ (c ∷ cs)) settled =
    split (eqb b 0x2B)
    (λ plus.
    split (eqb c 0x2B)
    (λ again.
    let calm : waits_behind (waits_behind false b) c ≡ false = rw (plus, again) refl in
    rw (plus, again) (ap (λ (n : ℕ). 2 + n) (taken_all cs (ap (λ (w : Bool). foldl waits_behind w cs) (sym calm) ∙ settled)) ∙ omega arith))
    (λ other.
    let calm : waits_behind (waits_behind false b) c ≡ false = rw other refl in
    rw (plus, other, other) (omega (arith, taken_all cs (ap (λ (w : Bool). foldl waits_behind w cs) (sym calm) ∙ settled)))))
    (λ other.
    let calm : waits_behind false b ≡ false = rw other refl in
    rw (other, other) (omega (arith, taken_all (c ∷ cs) (ap (λ (w : Bool). foldl waits_behind w (c ∷ cs)) (sym calm) ∙ settled))))

-- what a start closes is the same, whatever comes behind it
pub until_start_start : (ts us : List Token) → until_start (ts ++ start ∷ us) ≡ until_start ts
until_start_start [] us = refl
until_start_start (start ∷ ts) us = refl
until_start_start (literal l ∷ ts) us = ap (λ (r : List ℕ). l ∷ r) (until_start_start ts us)

module _ {A : Type 0} (whole : List ℕ → List A) where
  -- a start ends what stands before it, and its place is behind the bytes of that
  at_start : (ts us : List Token) (place : ℕ) → opened_at whole place (ts ++ start ∷ us) ≡ opened_at whole place ts ++ opened_at whole (place + widths ts) (start ∷ us)
  at_start [] us place =
      let none : place ≡ place + 0 = omega arith in
      ap (λ (p : ℕ). opened_at whole p (start ∷ us)) none
  at_start (start ∷ ts) us place =
      let on : place + 1 + widths ts ≡ place + (1 + widths ts) = omega arith in
      rw (until_start_start ts us, at_start ts us (place + 1), on)
      (sym (append_assoc (placed place (whole (until_start ts))) (opened_at whole (place + 1) ts) (opened_at whole (place + (1 + widths ts)) (start ∷ us))))
  at_start (literal l ∷ ts) us place =
      let on : place + width (literal l) + widths ts ≡ place + (width (literal l) + widths ts) = omega arith in
      at_start ts us (place + width (literal l)) ∙ ap (λ (p : ℕ). opened_at whole (place + width (literal l)) ts ++ opened_at whole p (start ∷ us)) on

  literals_open : (ls : List ℕ) (place : ℕ) → opened_at whole place (map literal ls) ≡ []
  literals_open [] place = refl
  literals_open (l ∷ ls) place = literals_open ls (place + width (literal l))

  framed_placed : (bs : List ℕ) (c : ℕ) (ls : List ℕ) → waits_after bs ≡ false → eqb c 0x2B ≡ false
      → opened_at whole 0 (paired (bs ++ framed c ls)) ≡ opened_at whole 0 (paired bs) ++ placed (length bs) (whole (c ∷ ls))
  unfolding waits_after
  framed_placed bs c ls settled other =
      let tokens : paired (framed c ls) ≡ start ∷ literal c ∷ map literal ls = rw other (ap (λ (ts : List Token). start ∷ literal c ∷ ts) (rw (append-nil (stuffed ls), append-nil (map literal ls)) at (paired_stuffed ls []))) in
      let place : 0 + widths (paired bs) ≡ length bs = omega (arith, taken_all bs settled) in
      ap (opened_at whole 0) (paired_settled bs (framed c ls) settled ∙ ap (λ (ts : List Token). paired bs ++ ts) tokens)
      ∙ at_start (paired bs) (literal c ∷ map literal ls) 0
      ∙ ap (λ (p : ℕ). opened_at whole 0 (paired bs) ++ opened_at whole p (start ∷ literal c ∷ map literal ls)) place
      ∙ ap (λ (l : List (Placed A)). opened_at whole 0 (paired bs) ++ l)
      (rw (until_start_literals ls, literals_open ls (length bs + 1 + width (literal c)), append-nil) refl)

-- a well-formed message
pub message_placed : (m : Message) → well_formed m ≡ true → (bs : List ℕ) → waits_after bs ≡ false
    → heard_at (bs ++ on_wire m) ≡ heard_at bs ++ (record { place = length bs; thing = m } ∷ [])
unfolding heard_at on_wire
message_placed m formed bs settled =
    let frame = message_frame m formed in
    framed_placed whole_message bs m.command (literals m) settled frame.other
    ∙ ap (λ (ms : List Message). opened_at whole_message 0 (paired bs) ++ placed (length bs) ms) frame.makes
