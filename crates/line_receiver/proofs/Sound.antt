-- The bounds of the receiver's state: a step keeps them, and only a state outside is refused.
use Prim.Native.Nat.{ℕ, ◌<◌, ◌≤◌, ◌+◌}
use mathlib.Core.Path.{◌≡◌, refl}
use mathlib.Core.Bool.{Bool, true, false, cond, not, ◌&&◌, ◌||◌}
use native.Mathlib.Omega.{arith}
use borrow.Author.Tests.{ltb-true, ltb-false, eqb-true, not-true, eq-eqb, lt-ltb}
use lib.Dec.{ltb, leb, eqb}
use Rattle.document.specs.Kinds.{has_length_byte, fast_length}
use Rattle.document.proofs.Cases.{split, and_left, and_right}
use Rattle.line_receiver.specs.declared.Receiver.{Receiver}
use Rattle.line_receiver.specs.declared.Reaction.{Reaction}
use Rattle.line_receiver.specs.declared.Event.TheVariants.{Nothing, Keep, Whole}
use Rattle.line_receiver.specs.Bounds.{idle, length_next, data_next, sum_next, fresh, length_right, inside_sound, sound}
use Rattle.line_receiver.specs.Step.{plus, next_phase, more, opened, measured, counted, closed, added, after_literal, literal_event, with_waiting, after_byte, byte_event, stepped}

-- ---- the bounds over plain numbers
abbrev pub in_bounds : ℕ → ℕ → ℕ → ℕ → ℕ → Bool
in_bounds waiting phase c n have =
    leb waiting 1 && (eqb phase idle || (not (eqb c 0x2B) && inside_sound phase c n have))

module _ (waiting phase c n have : ℕ) where
  in_bounds_lem : leb waiting 1 ≡ true → eqb c 0x2B ≡ false → inside_sound phase c n have ≡ true →
      in_bounds waiting phase c n have ≡ true
  in_bounds_lem w other inside = split (eqb phase idle) (λ e. rw (w, e) refl) (λ e. rw (w, e, other, inside) refl)

  idle_in_bounds : leb waiting 1 ≡ true → eqb phase idle ≡ true → in_bounds waiting phase c n have ≡ true
  idle_in_bounds w e = rw (w, e) refl

  module _ (bounds : in_bounds waiting phase c n have ≡ true) where
    pub waiting_in_lem : leb waiting 1 ≡ true
    waiting_in_lem = and_left (leb waiting 1) _ bounds

    pub inside_in : eqb phase idle ≡ false → not (eqb c 0x2B) && inside_sound phase c n have ≡ true
    inside_in inside =
        rw inside at (and_right (leb waiting 1) (eqb phase idle || (not
        (eqb c 0x2B) && inside_sound phase c n have)) bounds)

    pub command_in_lem : eqb phase idle ≡ false → eqb c 0x2B ≡ false
    command_in_lem inside = not-true _ (and_left (not (eqb c 0x2B)) _ (inside_in inside))

    pub phase_in : eqb phase idle ≡ false → inside_sound phase c n have ≡ true
    phase_in inside = and_right (not (eqb c 0x2B)) _ (inside_in inside)

-- ---- by phase
pub other_phase : (phase p q : ℕ) → eqb phase p ≡ true → eqb p q ≡ false → eqb phase q ≡ false
other_phase phase p q e apart = rw (eqb-true phase p e) apart

pub by_phase : {P : Type 0} (phase : ℕ) → (eqb phase data_next ≡ true → P) → (eqb phase sum_next ≡ true → P) →
    (eqb phase length_next ≡ true → P) → (eqb phase data_next ≡ false → eqb phase sum_next ≡ false →
    eqb phase length_next ≡ false → P) → P
by_phase phase onData onSum onLength onNone =
    split (eqb phase data_next)
    onData
    (λ d. split (eqb phase sum_next)
    onSum
    (λ s. split (eqb phase length_next) onLength (λ l. onNone d s l)))

module _ (waiting phase c n have : ℕ) (bounds : in_bounds waiting phase c n have ≡ true) where
  pub data_in : eqb phase data_next ≡ true → (length_right c n ≡ true) × (have < n)
  data_in e =
      let inside : length_right c n && ltb have n ≡ true =
      rw e at (phase_in waiting phase c n have bounds (other_phase phase data_next idle e refl)) in (
        and_left (length_right c n) (ltb have n) inside,
        ltb-true have n (and_right (length_right c n) (ltb have n) inside),
      )

  pub sum_in : eqb phase sum_next ≡ true → (length_right c n ≡ true) × (have ≡ n)
  sum_in e =
      let inside : length_right c n && eqb have n ≡ true =
      rw (
        other_phase phase sum_next data_next e refl,
        e,
      ) at (phase_in waiting phase c n have bounds (other_phase phase sum_next idle e refl)) in (
        and_left (length_right c n) (eqb have n) inside,
        eqb-true have n (and_right (length_right c n) (eqb have n) inside),
      )

  pub length_in_lem : eqb phase length_next ≡ true → (has_length_byte c ≡ true) × (have ≡ 0)
  length_in_lem e =
      let inside : has_length_byte c && eqb have 0 ≡ true =
      rw (
        other_phase phase length_next data_next e refl,
        other_phase phase length_next sum_next e refl,
        e,
      ) at (phase_in waiting phase c n have bounds (other_phase phase length_next idle e refl)) in (
        and_left (has_length_byte c) (eqb have 0) inside,
        eqb-true have 0 (and_right (has_length_byte c) (eqb have 0) inside),
      )

-- a message's next phase is within bounds
next_inside : (c n have : ℕ) → have ≤ n → length_right c n ≡ true → inside_sound (next_phase have n) c n have ≡ true
next_inside c n have fits right =
    split (ltb have n)
    (λ t. rw (t, right) refl)
    (λ f. let e : have ≡ n = omega (arith, ltb-false have n f) in rw (f, right, eq-eqb have n e) refl)

-- ---- the literal of each phase
abbrev pub nothing : Receiver → Reaction
nothing r = record { next = r; event = Nothing }

unfoldable pub literal_taken : Receiver → ℕ → Reaction
literal_taken r l = record { next = after_literal r l; event = literal_event r l }

module _ (r : Receiver) (l : ℕ) where
  pub literal_data : eqb r.phase data_next ≡ true → literal_taken r l ≡ record {
    next =
        counted r l;
    event = cond (ltb r.have 64) (Keep r.have l) Nothing;
  }
  unfolding literal_taken
  literal_data e = rw e refl

  pub literal_sum : eqb r.phase sum_next ≡ true → literal_taken r l ≡ record {
    next =
        closed r l;
    event = Whole r.command r.length (added r.sum l);
  }
  unfolding literal_taken
  literal_sum e = rw (other_phase r.phase sum_next data_next e refl, e) refl

  pub literal_length : eqb r.phase length_next ≡ true → literal_taken r l ≡ nothing (measured r l)
  unfolding literal_taken
  literal_length e =
      rw (other_phase r.phase length_next data_next e refl, other_phase r.phase length_next sum_next e refl, e) refl

  pub literal_outside : eqb r.phase data_next ≡ false → eqb r.phase sum_next ≡ false →
      eqb r.phase length_next ≡ false → literal_taken r l ≡ nothing r
  unfolding literal_taken
  literal_outside d s e = rw (d, s, e) refl

-- ---- a step keeps the bounds
module _ (r : Receiver) (bounds : sound r ≡ true) where
  bounds_of : in_bounds r.waiting r.phase r.command r.length r.have ≡ true
  unfolding sound
  bounds_of = bounds

  pub waiting_of : leb r.waiting 1 ≡ true
  waiting_of = waiting_in_lem r.waiting r.phase r.command r.length r.have bounds_of

  command_of_lem : (p : ℕ) → eqb r.phase p ≡ true → eqb p idle ≡ false → eqb r.command 0x2B ≡ false
  command_of_lem p e inside =
      command_in_lem r.waiting r.phase r.command r.length r.have bounds_of (other_phase
      r.phase p idle e inside)

  pub data_of : eqb r.phase data_next ≡ true → (length_right r.command r.length ≡ true) × (r.have < r.length)
  data_of = data_in r.waiting r.phase r.command r.length r.have bounds_of

  pub sum_of : eqb r.phase sum_next ≡ true → (length_right r.command r.length ≡ true) × (r.have ≡ r.length)
  sum_of = sum_in r.waiting r.phase r.command r.length r.have bounds_of

  pub length_of_lem : eqb r.phase length_next ≡ true → (has_length_byte r.command ≡ true) × (r.have ≡ 0)
  length_of_lem = length_in_lem r.waiting r.phase r.command r.length r.have bounds_of

  counted_sound : (l : ℕ) → eqb r.phase data_next ≡ true → sound (counted r l) ≡ true
  unfolding sound
  counted_sound l e =
      let one : more r.have r.length ≡ r.have + 1 = rw (lt-ltb r.have r.length (data_of e).1) refl in
      rw one
      (in_bounds_lem r.waiting (next_phase (r.have + 1) r.length) r.command r.length
      (r.have + 1) waiting_of (command_of_lem data_next e refl)
      (next_inside r.command r.length (r.have + 1) (omega (arith, (data_of e).1)) (data_of e).0))

  closed_sound : (l : ℕ) → sound (closed r l) ≡ true
  unfolding sound
  closed_sound l = idle_in_bounds r.waiting idle r.command r.length r.have waiting_of refl

  measured_sound : (l : ℕ) → eqb r.phase length_next ≡ true → sound (measured r l) ≡ true
  unfolding sound
  measured_sound l e =
      in_bounds_lem r.waiting (next_phase r.have l) r.command l r.have waiting_of
      (command_of_lem length_next e refl)
      (next_inside r.command l r.have (omega (arith, (length_of_lem e).1)) (rw (length_of_lem e).0 refl))

  literal_sound : (l : ℕ) → sound (literal_taken r l).next ≡ true
  literal_sound l =
      by_phase r.phase
      (λ e. rw (literal_data r l e) (counted_sound l e))
      (λ e. rw (literal_sum r l e) (closed_sound l))
      (λ e. rw (literal_length r l e) (measured_sound l e))
      (λ d s e. rw (literal_outside r l d s e) bounds)

  pub waiting_sound : (w : ℕ) → leb w 1 ≡ true → sound (with_waiting w r) ≡ true
  unfolding sound
  waiting_sound w ok = rw ok (and_right (leb r.waiting 1) _ bounds_of)

opened_sound : (c : ℕ) → eqb c 0x2B ≡ false → sound (opened c) ≡ true
unfolding sound
opened_sound c other =
    split (has_length_byte c)
    (λ standard. rw (standard, other) refl)
    (λ fast. let right : length_right c (fast_length c) ≡ true = rw (
      fast,
      eq-eqb (fast_length c) (fast_length c) refl,
    ) refl in
    let inside : inside_sound (next_phase 0 (fast_length c)) c (fast_length c) 0 ≡ true =
    next_inside c (fast_length c) 0 (omega arith) right in
    rw fast (rw fast at (in_bounds_lem 0 (next_phase 0 (fast_length c)) c (fast_length c) 0 refl other inside)))

pub plus_is : (b : ℕ) → eqb (plus b) 1 ≡ eqb b 0x2B
plus_is b = split (eqb b 0x2B) (λ plus. rw plus refl) (λ other. rw other refl)

pub step_sound : (r : Receiver) (b : ℕ) → sound r ≡ true → sound (stepped r b).next ≡ true
unfolding stepped after_byte byte_event literal_taken
step_sound r b bounds =
    split (eqb (plus b) r.waiting)
    (λ e. rw e (literal_sound (with_waiting 0 r) (waiting_sound r bounds 0 refl) b))
    (λ e. split (eqb b 0x2B)
    (λ plus. rw (e, plus_is b, plus) (waiting_sound r bounds 1 refl))
    (λ other. rw (e, plus_is b, other) (opened_sound b other)))

pub reset_sound : sound fresh ≡ true
unfolding sound
reset_sound = refl
