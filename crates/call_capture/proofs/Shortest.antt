-- Bytes hold at most a third as many messages: a start, a command and a sum byte are the shortest.
use mathlib.Core.Path.{◌≡◌, sym, ap, ◌∙◌}
use mathlib.Core.List.{List, [], ◌∷◌}
use Prim.Native.Nat.{ℕ, suc, ◌+◌, ◌*◌, ◌/◌, ◌≤◌}
use native.Mathlib.Omega.{arith}
use borrow.Author.Tests.{ltb-true}
use lib.Dec.{eqb, ltb}
use lib.ListN.{length, length-append, length-map}
use Rattle.document.specs.Kinds.{has_length_byte, fast_length}
use Rattle.document.specs.Pairing.{Token, Placed, paired, until_start, opened}
use Rattle.document.specs.Pairing.Token.{start, literal}
use Rattle.document.specs.Message.{Message, of_length, after_length_byte, whole_message, heard, heard_at}
use Rattle.document.proofs.Cases.{split}
use Rattle.document.proofs.Places.{heard_at_lem}
use Rattle.document_captures.specs.Captures.{entry_of, captured}

-- ---- a start and its literals

counted_some : (c n : ℕ) (ls : List ℕ) → length (of_length c n ls) ≤ length ls
counted_some c n ls = split (ltb n (length ls)) (λ t. rw t (omega (arith, ltb-true n (length ls) t))) (λ f. rw f (omega arith))

counted_one : (c n : ℕ) (ls : List ℕ) → length (of_length c n ls) ≤ 1
counted_one c n ls = split (ltb n (length ls)) (λ t. rw t (omega arith)) (λ f. rw f (omega arith))

behind_length : (c : ℕ) (ls : List ℕ) → length (after_length_byte c ls) * 3 ≤ suc (suc (length ls))
behind_length c [] = omega arith
behind_length c (n ∷ ls) = omega (arith, counted_some c n ls, counted_one c n ls)

behind_command : (c n : ℕ) (ls : List ℕ) → length (of_length c n ls) * 3 ≤ suc (suc (length ls))
behind_command c n ls = omega (arith, counted_some c n ls, counted_one c n ls)

whole_some : (ls : List ℕ) → length (whole_message ls) * 3 ≤ suc (length ls)
whole_some [] = omega arith
whole_some (c ∷ ls) =
    split (has_length_byte c) (λ standard. rw standard (behind_length c ls)) (λ fast. rw fast (behind_command c (fast_length c) ls))

-- ---- tokens, and the bytes that they took

opened_few : (ts : List Token) → length (opened whole_message ts) * 3 + length (until_start ts) ≤ length ts
opened_few [] = omega arith
opened_few (start ∷ ts) =
    omega (arith, length-append (whole_message (until_start ts)) (opened whole_message ts), whole_some (until_start ts), opened_few ts)
opened_few (literal l ∷ ts) = omega (arith, opened_few ts)

paired_few : (bs : List ℕ) → length (paired bs) ≤ length bs
paired_few [] = omega arith
paired_few (b ∷ []) = split (eqb b 0x2B) (λ plus. rw plus (omega arith)) (λ other. rw other (omega arith))
paired_few (b ∷ (c ∷ cs)) =
    split (eqb b 0x2B)
    (λ plus. split (eqb c 0x2B)
    (λ again. rw (plus, again) (omega (arith, paired_few cs)))
    (λ other. rw (plus, other) (omega (arith, paired_few cs))))
    (λ other. rw other (omega (arith, paired_few (c ∷ cs))))

pub captured_few : (bs : List ℕ) → length (captured bs) ≤ length bs / 3
unfolding captured heard
captured_few bs =
    let placed : length (heard_at bs) ≡ length (heard bs) = sym (length-map (heard_at bs) (λ (p : Placed Message). p.thing)) ∙ ap length (heard_at_lem bs) in
    let same : length (captured bs) ≡ length (heard_at bs) = length-map (heard_at bs) entry_of in
    omega (arith, placed, same, opened_few (paired bs), paired_few bs)
