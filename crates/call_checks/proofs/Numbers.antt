-- The numbers with which the calls refuse, one after the other.
use mathlib.Core.Path.{◌≡◌, refl, sym, ◌∙◌}
use mathlib.Core.Bool.{Bool, true, false, true≢false}
use mathlib.Core.List.{List}
use Prim.Native.Nat.{ℕ, ◌<◌, ◌≤◌}
use native.Mathlib.Omega.{arith}
use borrow.Author.Tests.{eq-eqb, ne_eqb, eqb-true, lt-ltb, le-ltb, ltb-false}
use lib.Dec.{eqb, ltb}
use lib.ListN.{length}
use Rattle.document.specs.Numbers.{answer_room, taken, state_refused, memory_refused, room_refused}
use Rattle.document.specs.Areas.{memory_end}
use Rattle.document.specs.Calls.{tick_refusal, byte_refusal}
use Rattle.document.proofs.Cases.{split}

module _ (sound : Bool) (memory : List ℕ) where
  pub outside : sound ≡ false → state_refused ≡ tick_refusal sound memory
  outside e = sym (rw e refl)

  pub other_length : sound ≡ true → (length memory ≡ memory_end → ⊥) → memory_refused ≡ tick_refusal sound memory
  other_length ok wrong = sym (rw (ok, ne_eqb (length memory) memory_end wrong) refl)

  pub none_refused : sound ≡ true → length memory ≡ memory_end → taken ≡ tick_refusal sound memory
  none_refused ok whole = sym (rw (ok, eq-eqb (length memory) memory_end whole) refl)

  -- and back
  pub tick_known : tick_refusal sound memory ≡ taken → (sound ≡ true) × (length memory ≡ memory_end)
  tick_known fine =
      split sound
      (λ ok. split (eqb (length memory) memory_end)
      (λ whole. (ok, eqb-true (length memory) memory_end whole))
      (λ other. let e : ◌≡◌ {A = ℕ} memory_refused taken = rw (ok, other) at fine in let b : ⊥ = omega arith in absurd b))
      (λ bad. let e : ◌≡◌ {A = ℕ} state_refused taken = rw bad at fine in let b : ⊥ = omega arith in absurd b)

  module _ (buffer : List ℕ) where
    pub as_tick : (tick_refusal sound memory ≡ taken → ⊥) → tick_refusal sound memory ≡ byte_refusal sound memory buffer
    as_tick refused =
        split sound
        (λ ok. split (eqb (length memory) memory_end)
        (λ whole. let b : ⊥ = refused (rw (ok, whole) refl) in absurd b)
        (λ other. rw (ok, other) refl))
        (λ bad. rw bad refl)

    module _ (fine : tick_refusal sound memory ≡ taken) where
      pub short : length buffer < answer_room → room_refused ≡ byte_refusal sound memory buffer
      short less =
          sym (rw ((tick_known fine).0, eq-eqb (length memory) memory_end (tick_known fine).1, lt-ltb (length buffer) answer_room less) refl)

      pub byte_fine : answer_room ≤ length buffer → taken ≡ byte_refusal sound memory buffer
      byte_fine room =
          sym (rw ((tick_known fine).0, eq-eqb (length memory) memory_end (tick_known fine).1, le-ltb (length buffer) answer_room room) refl)

    pub byte_known : byte_refusal sound memory buffer ≡ taken → (sound ≡ true) × (length memory ≡ memory_end) × (132 ≤ length buffer)
    byte_known fine =
        split (eqb (tick_refusal sound memory) taken)
        (λ none.
        let tick : tick_refusal sound memory ≡ taken = eqb-true (tick_refusal sound memory) taken none in
        let known = tick_known tick in
        split (ltb (length buffer) answer_room)
        (λ less.
        let e : ◌≡◌ {A = ℕ} room_refused taken = rw (known.0, eq-eqb (length memory) memory_end known.1, less) at fine in
        let b : ⊥ = omega arith in absurd b)
        (λ room. (known.0, known.1, ltb-false (length buffer) answer_room room)))
        (λ some.
        let b : ⊥ = refuted some in absurd b)
      where
        refuted : eqb (tick_refusal sound memory) taken ≡ false → ⊥
        refuted some =
            let other : tick_refusal sound memory ≡ taken → ⊥ = λ e. let z : ◌≡◌ {A = Bool} true false = sym (eq-eqb (tick_refusal sound memory) taken e) ∙ some in absurd (true≢false z) in
            other (as_tick other ∙ fine)
