-- What every byte leaves of a reader: idle where it finished an answer, right or wrong, and room for as many data as before.
use mathlib.Core.Path.{◌≡◌, refl, ap, ◌∙◌}
use mathlib.Core.Bool.{Bool, true, false}
use mathlib.Core.List.{List, [], ◌∷◌, foldl}
use Prim.Native.Nat.{ℕ}
use lib.Dec.{eqb}
use lib.ListN.{length, length-set}
use Rattle.document.specs.Numbers.{most_data}
use Rattle.document.specs.AnswerReader.{Brought}
use Rattle.document.specs.AnswerReader.Brought.{nothing, answer, wrong}
use Rattle.document.proofs.Cases.{split, neither}
use Rattle.line_reader.specs.Reader.{AnswerReader, idle, in_data, at_sum, fresh, literal, stepped, reader_after}

-- whether something was brought
abbrev pub is_whole : Brought → Bool
is_whole nothing = false
is_whole (answer a) = true
is_whole wrong = true

-- "6 alone consumes its byte and leaves the reader idle"
literal_idle : (r : AnswerReader) (l : ℕ) → is_whole (literal r l).brings ≡ true → (literal r l).next.phase ≡ idle
unfolding literal
literal_idle r l whole =
    split (eqb r.phase in_data)
    (λ data'. neither (rw data' at whole))
    (λ other. split (eqb r.phase at_sum)
    (λ sum. rw (other, sum) refl)
    (λ out. neither (rw (other, out) at whole)))

pub whole_idle : (r : AnswerReader) (b : ℕ) → is_whole (stepped r b).brings ≡ true → (stepped r b).next.phase ≡ idle
unfolding stepped
whole_idle r b whole =
    split (eqb b 0x2B)
    (λ two. split (eqb r.waiting 1)
    (λ waits. rw (two, waits) (literal_idle r 0x2B (rw (two, waits) at whole)))
    (λ none. neither (rw (two, none) at whole)))
    (λ other. split (eqb r.waiting 1)
    (λ waits. neither (rw (other, waits) at whole))
    (λ none. rw (other, none) (literal_idle r b (rw (other, none) at whole))))

pub wrong_idle : (r : AnswerReader) (b : ℕ) → (stepped r b).brings ≡ wrong → (stepped r b).next.phase ≡ idle
wrong_idle r b bad = whole_idle r b (ap is_whole bad)

-- ---- as many data as before

literal_size : (r : AnswerReader) (l : ℕ) → length (literal r l).next.body ≡ length r.body
unfolding literal
literal_size r l =
    split (eqb r.phase in_data)
    (λ data'. rw data' (length-set r.body r.have l))
    (λ other. split (eqb r.phase at_sum) (λ sum. rw (other, sum) refl) (λ out. rw (other, out) refl))

pub stepped_size : (r : AnswerReader) (b : ℕ) → length (stepped r b).next.body ≡ length r.body
unfolding stepped
stepped_size r b =
    split (eqb b 0x2B)
    (λ two. split (eqb r.waiting 1) (λ waits. rw (two, waits) (literal_size r 0x2B)) (λ none. rw (two, none) refl))
    (λ other. split (eqb r.waiting 1) (λ waits. rw (other, waits) refl) (λ none. rw (other, none) (literal_size r b)))

pub after_size : (n : ℕ) (bs : List ℕ) → length (reader_after n bs).body ≡ most_data
unfolding reader_after
after_size n bs = kept bs (fresh n) refl
  where
    kept : (bs : List ℕ) (r : AnswerReader) → length r.body ≡ most_data
        → length (foldl (λ (q : AnswerReader) (b : ℕ). (stepped q b).next) r bs).body ≡ most_data
    kept [] r e = e
    kept (b ∷ bs) r e = kept bs (stepped r b).next (stepped_size r b ∙ e)
