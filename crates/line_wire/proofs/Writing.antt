-- Bytes put one list behind the other, up to the sum byte, are a whole message or answer on the wire.
use mathlib.Core.Path.{◌≡◌, refl, sym, ap, subst, ◌∙◌}
use mathlib.Core.List.{List, [], ◌∷◌, ◌++◌}
use Prim.Native.Nat.{ℕ, ◌+◌, ◌%◌, ◌<◌, ◌≤◌}
use native.Mathlib.Numerals.{add-one}
use native.Mathlib.Omega.{arith}
use lib.ListN.{length, get_or, drop, length-append, length-set}
use lib.Seq.{sets, drop-cons, length-sets}
use Rattle.document.specs.Doubling.{stuffed}
use Rattle.document.specs.Sum.{total, sum_byte_of}
use Rattle.document.specs.Answer.{Answer, answer_on_wire}
use Rattle.line_wire.specs.declared.doubling.Progress.{Progress}
use Rattle.line_wire.specs.Put.{progressed, front, Put, Ended}
use Rattle.line_wire.specs.Told.{fronted, Telling, Told}
use Rattle.line_wire.proofs.Pairing.{framed}
use Rattle.line_wire.proofs.RightSum.{total_append}
use Rattle.line_wire.proofs.Stuffed.{stuffed_append, stuffed_length, sets_append}

-- ---- one list behind the other

pub progressed_append : (p : Progress) (xs ys : List ℕ) → progressed (progressed p xs) ys ≡ progressed p (xs ++ ys)
progressed_append p xs ys =
    let at : p.at + length (stuffed xs) + length (stuffed ys) ≡ p.at + length (stuffed (xs ++ ys)) = rw (stuffed_append xs ys, length-append (stuffed xs)) (omega arith) in
    let sum : ((p.sum + total xs) % 256 + total ys) % 256 ≡ (p.sum + total (xs ++ ys)) % 256 = rw (total_append xs ys) (omega arith) in
    λ i. record { at = at i; sum = sum i }

pub progressed_none : (p : Progress) → p.sum < 256 → progressed p [] ≡ p
progressed_none p h =
    let at : p.at + 0 ≡ p.at = omega arith in
    let sum : (p.sum + 0) % 256 ≡ p.sum = omega arith in
    λ i. record { at = at i; sum = sum i }

-- one turn of a loop over the bytes
pub progressed_drop : (p : Progress) (xs : List ℕ) (i : ℕ) → i < length xs →
    progressed (progressed p (get_or xs i 0 ∷ [])) (drop (i + 1) xs) ≡ progressed p (drop i xs)
progressed_drop p xs i h =
    progressed_append p (get_or xs i 0 ∷ []) (drop (i + 1) xs) ∙ rw (add-one i, drop-cons xs i 0 h) refl

pub put_append : (p q r : Progress) (xs ys l₀ l₁ l₂ : List ℕ) → Put p xs l₀ q l₁ → Put q ys l₁ r l₂ → Put p (xs ++ ys) l₀ r l₂
put_append p q r xs ys l₀ l₁ l₂ a b =
    record {
      progress = b.progress ∙ ap (λ (t : Progress). progressed t ys) a.progress ∙ progressed_append p xs ys;
      buffer =
          b.buffer
          ∙ rw (a.buffer, ap (λ (t : Progress). t.at) a.progress, stuffed_append xs ys)
          (sym (sets_append (stuffed xs) (stuffed ys) l₀ p.at));
    }

-- ---- front, literals, sum byte

pub sum_front : (first : ℕ) (ls : List ℕ) (p : Progress) → p ≡ progressed (front first) ls →
    sum_byte_of (p.sum ∷ []) ≡ sum_byte_of (first ∷ ls)
sum_front first ls p e =
    let s : p.sum ≡ (first + total ls) % 256 = ap (λ (t : Progress). t.sum) e in
    rw s (omega arith)

module _ (first : ℕ) (ls out l₁ l₂ : List ℕ) (p : Progress) (n : ℕ) (put : Put (front first) ls (fronted out first) p l₁) (ended : Ended p l₁ n l₂) where
  at_is : p.at ≡ 2 + length (stuffed ls)
  at_is = ap (λ (t : Progress). t.at) put.progress

  sum_is : sum_byte_of (p.sum ∷ []) ≡ sum_byte_of (first ∷ ls)
  sum_is = sum_front first ls p put.progress

  pub written_length : n ≡ length (framed first (ls ++ (sum_byte_of (first ∷ ls) ∷ [])))
  written_length =
      ended.end
      ∙ rw (sum_is, at_is, stuffed_append ls (sum_byte_of (first ∷ ls) ∷ []), length-append (stuffed ls)) (omega arith)

  pub written_buffer : l₂ ≡ sets out 0 (framed first (ls ++ (sum_byte_of (first ∷ ls) ∷ [])))
  written_buffer =
      ended.buffer
      ∙ rw (sum_is, at_is, put.buffer, stuffed_append ls (sum_byte_of (first ∷ ls) ∷ []))
      (sym (sets_append (stuffed ls) (stuffed (sum_byte_of (first ∷ ls) ∷ [])) (fronted out first) 2))

-- ---- an answer in parts

module _ (status : ℕ) (bytes before : List ℕ) (p : Progress) (l : List ℕ) (telling : Telling status bytes before p l) where
  -- further data, and the sum byte, find room
  pub telling_room : 132 ≤ length before → (more : List ℕ) → length bytes + length more ≤ 65 → p.at + length (stuffed more) ≤ length l
  telling_room room more few =
      let at : p.at ≡ 2 + length (stuffed bytes) = ap (λ (t : Progress). t.at) telling.progress in
      let kept : length l ≡ length before = ap length telling.buffer ∙ simp (length-sets, length-set) in
      omega (arith, at, kept, room, few, stuffed_length bytes, stuffed_length more)

  pub word_room : 132 ≤ length before → length bytes ≤ 63 → p.at + 4 ≤ length l
  word_room room few = telling_room room (0x2B ∷ 0x2B ∷ []) (omega (arith, few))

  pub told_in_parts : (n : ℕ) (after : List ℕ) → Ended p l n after → Told (record { status = status; body = bytes }) before n after
  unfolding answer_on_wire
  told_in_parts n after ended =
      record {
        length = written_length status bytes before l after p n telling ended;
        buffer = written_buffer status bytes before l after p n telling ended;
      }

-- what tells an answer tells an equal one
pub told_as : {before after : List ℕ} {n : ℕ} (a b : Answer) → a ≡ b → Told a before n after → Told b before n after
told_as {before} {after} {n} a b same told = subst (λ (c : Answer). Told c before n after) same told
