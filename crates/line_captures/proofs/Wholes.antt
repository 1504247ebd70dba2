-- Data and a sum byte, counted and summed: the message that they make, with its class, or none.
use mathlib.Core.Path.{◌≡◌, refl, sym, ap, ◌∙◌}
use mathlib.Core.Bool.{Bool, true, false, cond}
use mathlib.Core.List.{List, [], ◌∷◌, ◌++◌, append_assoc}
use Prim.Native.Nat.{ℕ, suc, ◌+◌, ◌-◌, ◌%◌, ◌<◌, ◌≤◌}
use native.Mathlib.Omega.{arith}
use borrow.Author.Tests.{eq-eqb, ne_eqb, ltb-true, ltb-false}
use lib.Dec.{eqb, ltb}
use lib.ListN.{length, take, get_or}
use lib.Seq.{take-suc, length-take-le}
use Rattle.std.specs.declared.option.Option.{Option}
use Rattle.std.specs.declared.option.Option.TheVariants.{None, Some}
use Rattle.document.specs.Numbers.{most_data}
use Rattle.document.specs.Kinds.{has_length_byte, fast_length}
use Rattle.document.specs.Sum.{total}
use Rattle.document.specs.Message.{Message, length_part, sum_right, of_length, whole_message}
use Rattle.document.proofs.Cases.{split}
use Rattle.document_captures.specs.Captures.{class_of}
use Rattle.line_wire.proofs.RightSum.{total_append}
use Rattle.line_captures.specs.declared.messages.Step.{Step}
use Rattle.line_captures.specs.declared.messages.Found.{Found}
use Rattle.line_captures.specs.declared.messages.Class.TheVariants.{WholeAndRight, WholeWithWrongSum, TooLongWithRightSum}
use Rattle.line_captures.specs.Messages.{class_number, found_in, entries_in, entries_of, entries_at}
use Rattle.line_captures.specs.Messages as engine

-- the number of a class that is given
class_given : (sum long : Bool) → class_number (cond sum (cond long TooLongWithRightSum WholeAndRight) WholeWithWrongSum) ≡ cond sum (cond long 2 0) 1
class_given true true = refl
class_given true false = refl
class_given false long = refl

module _ (c n s : ℕ) (ls : List ℕ) where
  abbrev message : Message
  message = record { command = c; body = take n ls; sum_byte = get_or ls n 0 }

  -- what the engine adds up
  abbrev sum : ℕ
  sum = (s + total (take (suc n) ls)) % 256

  abbrev message_found : Option Found
  message_found = found_in c (suc n - length ls) sum n

  module _ (whole : n < length ls) where
    body_and_sum : take n ls ++ (get_or ls n 0 ∷ []) ≡ take (suc n) ls
    body_and_sum = sym (take-suc ls n 0 whole)

    -- command, and length where there is one, come to s
    sum_is : (c + total (length_part c (take n ls))) % 256 ≡ s % 256 → sum_right message ≡ eqb sum 0
    sum_is front =
        let parts : total (length_part c (take n ls) ++ take n ls ++ (get_or ls n 0 ∷ [])) ≡ total (length_part c (take n ls)) + total (take (suc n) ls) =
        ap total (append_assoc (length_part c (take n ls)) (take n ls) (get_or ls n 0 ∷ []))
        ∙ total_append (length_part c (take n ls)) (take n ls ++ (get_or ls n 0 ∷ []))
        ∙ ap (λ (l : List ℕ). total (length_part c (take n ls)) + total l) body_and_sum in
        let all : total (c ∷ length_part c (take n ls) ++ take n ls ++ (get_or ls n 0 ∷ [])) % 256 ≡ sum = omega (arith, parts, front) in
        ap (λ (k : ℕ). eqb k 0) all

    class_is : (c + total (length_part c (take n ls))) % 256 ≡ s % 256 → class_of message ≡ class_number (engine.class_of sum n)
    class_is front =
        rw (sum_is front, length-take-le n ls (omega (arith, whole))) (sym (class_given (eqb sum 0) (ltb most_data n)))

    -- a message is found
    found : (place : ℕ) (r : Step) → r.found ≡ message_found → (c + total (length_part c (take n ls))) % 256 ≡ s % 256
        → entries_at place (message ∷ []) ≡ entries_of place r
    found place r is front =
        let there : suc n - length ls ≡ 0 = omega (arith, whole) in
        let some : r.found ≡ Some (record { command = c; class = engine.class_of sum n }) = is ∙ rw (eq-eqb (suc n - length ls) 0 there) refl in
        (λ i. record { place = place; command = c; class = class_is front i } ∷ []) ∙ ap (entries_in place) (sym some)

  pub counted_found : (place : ℕ) (r : Step) → r.found ≡ message_found
      → (n < length ls → (c + total (length_part c (take n ls))) % 256 ≡ s % 256) → entries_at place (of_length c n ls) ≡ entries_of place r
  counted_found place r is front =
      split (ltb n (length ls))
      (λ t.
      let whole = ltb-true n (length ls) t in
      rw t (found whole place r is (front whole)))
      (λ t.
      let short : length ls ≤ n = ltb-false n (length ls) t in
      let left : r.found ≡ None = is ∙ rw (ne_eqb (suc n - length ls) 0 (λ z. omega (arith, z, short))) refl in
      rw t (ap (entries_in place) (sym left)))

-- ---- "At 0xC0 and above, bits 5 and 4 give the data length"
pub fast_found : (place c : ℕ) (ls : List ℕ) (r : Step) → has_length_byte c ≡ false → r.found ≡ message_found c (fast_length c) c ls
    → entries_at place (whole_message (c ∷ ls)) ≡ entries_of place r
fast_found place c ls r fast is =
    rw fast (counted_found c (fast_length c) c ls place r is (λ whole. rw fast (omega arith)))

-- ---- "Below 0xC0 the next literal is the length"
pub standard_found : (place c n : ℕ) (ls : List ℕ) (r : Step) → has_length_byte c ≡ true → r.found ≡ message_found c n ((c + n) % 256) ls
    → entries_at place (whole_message (c ∷ n ∷ ls)) ≡ entries_of place r
standard_found place c n ls r standard is =
    rw standard
    (counted_found c n ((c + n) % 256) ls place r is
    (λ whole. rw standard (omega (arith, length-take-le n ls (omega (arith, whole))))))

pub none_found : (place c behind : ℕ) → has_length_byte c ≡ true
    → entries_at place (whole_message (c ∷ [])) ≡ entries_of place (record { behind = behind; found = None })
none_found place c behind standard = rw standard refl
