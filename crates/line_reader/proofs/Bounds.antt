-- The bounds of a reader: what they say of a state, and that no byte leaves them.
use mathlib.Core.Path.{◌≡◌, refl}
use mathlib.Core.Bool.{true, false, ◌&&◌}
use mathlib.Core.List.{List}
use Prim.Native.Nat.{ℕ, ◌+◌, ◌%◌, ◌≤◌, ◌<◌}
use native.Mathlib.Omega.{arith}
use borrow.Author.Tests.{leb-true, ltb-true, ltb-false, eqb-true, le-leb, eq-eqb, ne_eqb}
use lib.Dec.{eqb, ltb, leb}
use lib.ListN.{replicate, set}
use Rattle.document.specs.Numbers.{is_error}
use Rattle.document.proofs.Cases.{split, and_left, and_right}
use Rattle.line_reader.specs.Reader.{AnswerReader, sound, sound_at, data_length, phase_at, fresh, silent, opened, stored, finished, literal, stepped, turned}

-- ---- what the bounds say

data_few : (s n : ℕ) → data_length s n ≤ n
data_few s n = split (is_error s) (λ e. rw e (omega arith)) (λ e. rw e (omega arith))

module _ (r : AnswerReader) (ok : sound r ≡ true) where
  pub sound_waiting : r.waiting ≤ 1
  unfolding sound
  sound_waiting = leb-true _ _ (and_left (leb r.waiting 1) _ (and_left (leb r.waiting 1 && leb r.expected 64) _ ok))

  pub sound_expected : r.expected ≤ 64
  unfolding sound
  sound_expected = leb-true _ _ (and_right (leb r.waiting 1) _ (and_left (leb r.waiting 1 && leb r.expected 64) _ ok))

  pub sound_at_lem : sound_at r.phase r.have (data_length r.status r.expected) ≡ true
  unfolding sound
  sound_at_lem = and_right (leb r.waiting 1 && leb r.expected 64) _ ok

  pub data_left : r.phase ≡ 1 → r.have < data_length r.status r.expected
  data_left p = ltb-true _ _ (rw p at sound_at_lem)

  pub data_all : r.phase ≡ 2 → r.have ≡ data_length r.status r.expected
  data_all p = eqb-true _ _ (rw p at sound_at_lem)

  pub data_room : r.phase ≡ 1 → r.have < 64
  data_room p = omega (arith, data_left p, data_few r.status r.expected, sound_expected)

  pub sum_room : r.phase ≡ 2 → r.have ≤ 64
  sum_room p = omega (arith, data_all p, data_few r.status r.expected, sound_expected)

-- ---- what each phase makes of a literal, and each byte of a pairing

module _ (r : AnswerReader) (l : ℕ) where
  pub literal_data : r.phase ≡ 1 → literal r l ≡ silent (stored r l)
  unfolding literal
  literal_data p = rw (eq-eqb r.phase 1 p) refl

  pub literal_sum : r.phase ≡ 2 → literal r l ≡ finished r l
  unfolding literal
  literal_sum p = rw (ne_eqb r.phase 1 (λ e. omega arith), eq-eqb r.phase 2 p) refl

  pub literal_idle : (r.phase ≡ 1 → ⊥) → (r.phase ≡ 2 → ⊥) → literal r l ≡ silent (turned r 0 r.phase)
  unfolding literal
  literal_idle p q = rw (ne_eqb r.phase 1 p, ne_eqb r.phase 2 q) refl

module _ (r : AnswerReader) (b : ℕ) where
  pub stepped_doubled : eqb b 0x2B ≡ true → eqb r.waiting 1 ≡ true → stepped r b ≡ literal r 0x2B
  unfolding stepped
  stepped_doubled p w = rw (p, w) refl

  pub stepped_first : eqb b 0x2B ≡ true → eqb r.waiting 1 ≡ false → stepped r b ≡ silent (turned r 1 r.phase)
  unfolding stepped
  stepped_first p w = rw (p, w) refl

  pub stepped_start : eqb b 0x2B ≡ false → eqb r.waiting 1 ≡ true → stepped r b ≡ silent (opened r b)
  unfolding stepped
  stepped_start p w = rw (p, w) refl

  pub stepped_plain : eqb b 0x2B ≡ false → eqb r.waiting 1 ≡ false → stepped r b ≡ literal r b
  unfolding stepped
  stepped_plain p w = rw (p, w) refl

-- ---- no byte leaves the bounds

-- the phase that a count gives has its bounds
at_sound : (have n : ℕ) → have ≤ n → sound_at (phase_at have n) have n ≡ true
at_sound have n h =
    split (ltb have n)
    (λ t. rw t refl)
    (λ f. rw (f, eq-eqb have n (omega (arith, ltb-false have n f))) refl)

sound_with : (w p s e h m : ℕ) (body : List ℕ) → w ≤ 1 → e ≤ 64 → sound_at p h (data_length s e) ≡ true →
    sound (record { waiting = w; phase = p; status = s; expected = e; have = h; sum = m; body = body }) ≡ true
unfolding sound
sound_with w p s e h m body a b c = rw (le-leb w 1 a, le-leb e 64 b) c

pub fresh_sound : (n : ℕ) → n ≤ 64 → sound (fresh n) ≡ true
fresh_sound n h = sound_with 0 0 0 n 0 0 (replicate 64 0) (omega arith) h refl

-- a state within its bounds is in one of the three phases
pub phases : {P : Type 0} (r : AnswerReader) → sound r ≡ true → (r.phase ≡ 0 → P) → (r.phase ≡ 1 → P) → (r.phase ≡ 2 → P) → P
phases r ok idle in_data at_sum =
    split (eqb r.phase 0)
    (λ e. idle (eqb-true r.phase 0 e))
    (λ n. split (eqb r.phase 1)
    (λ e. in_data (eqb-true r.phase 1 e))
    (λ m. at_sum (eqb-true r.phase 2 (and_left (eqb r.phase 2) _ (rw (n, m) at (sound_at_lem r ok))))))

turned_sound : (r : AnswerReader) (w : ℕ) → w ≤ 1 → sound r ≡ true → sound (turned r w r.phase) ≡ true
turned_sound r w h ok = sound_with w r.phase r.status r.expected r.have r.sum r.body h (sound_expected r ok) (sound_at_lem r ok)

opened_sound : (r : AnswerReader) (s : ℕ) → sound r ≡ true → sound (opened r s) ≡ true
opened_sound r s ok =
    sound_with 0 (phase_at 0 (data_length s r.expected)) s r.expected 0 s r.body (omega arith) (sound_expected r ok)
    (at_sound 0 (data_length s r.expected) (omega arith))

stored_sound : (r : AnswerReader) (l : ℕ) → sound r ≡ true → r.phase ≡ 1 → sound (stored r l) ≡ true
stored_sound r l ok p =
    let n = data_length r.status r.expected in
    sound_with 0 (phase_at (r.have + 1) n) r.status r.expected (r.have + 1) ((r.sum + l) % 256) (set r.body r.have l)
    (omega arith) (sound_expected r ok) (at_sound (r.have + 1) n (omega (arith, data_left r ok p)))

finished_sound : (r : AnswerReader) → sound r ≡ true → sound (turned r 0 0) ≡ true
finished_sound r ok = sound_with 0 0 r.status r.expected r.have r.sum r.body (omega arith) (sound_expected r ok) refl

literal_sound : (r : AnswerReader) (l : ℕ) → sound r ≡ true → sound (literal r l).next ≡ true
literal_sound r l ok =
    phases r ok
    (λ p. rw (literal_idle r l (λ e. omega arith) (λ e. omega arith)) (turned_sound r 0 (omega arith) ok))
    (λ p. rw (literal_data r l p) (stored_sound r l ok p))
    (λ p. rw (literal_sum r l p) (finished_sound r ok))

pub stepped_sound : (r : AnswerReader) (b : ℕ) → sound r ≡ true → sound (stepped r b).next ≡ true
stepped_sound r b ok =
    split (eqb b 0x2B)
    (λ p. split (eqb r.waiting 1)
    (λ w. rw (stepped_doubled r b p w) (literal_sound r 0x2B ok))
    (λ w. rw (stepped_first r b p w) (turned_sound r 1 (omega arith) ok)))
    (λ p. split (eqb r.waiting 1)
    (λ w. rw (stepped_start r b p w) (opened_sound r b ok))
    (λ w. rw (stepped_plain r b p w) (literal_sound r b ok)))
