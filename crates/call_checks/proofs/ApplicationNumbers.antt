-- The numbers with which the gate's own program is refused: a command collected, a result reported.
use mathlib.Core.Path.{◌≡◌, refl, sym}
use mathlib.Core.Bool.{Bool, true, false}
use mathlib.Core.List.{List}
use Prim.Native.Nat.{ℕ, ◌<◌, ◌≤◌}
use native.Mathlib.Omega.{arith}
use borrow.Author.Tests.{lt-ltb, le-ltb, ltb-false}
use lib.Dec.{ltb}
use lib.ListN.{length}
use Rattle.document.specs.Numbers.{most_data, taken, state_refused, room_refused, result_refused}
use Rattle.document.specs.Application.{Application, is_collected, collect_refusal, report_refusal}
use Rattle.document.proofs.Cases.{split}

module _ (sound : Bool) (buffer : List ℕ) where
  pub collect_outside : sound ≡ false → state_refused ≡ collect_refusal sound buffer
  collect_outside bad = sym (rw bad refl)

  pub collect_short : sound ≡ true → length buffer < most_data → room_refused ≡ collect_refusal sound buffer
  collect_short ok less = sym (rw (ok, lt-ltb (length buffer) most_data less) refl)

  pub collect_fine : sound ≡ true → most_data ≤ length buffer → taken ≡ collect_refusal sound buffer
  collect_fine ok room = sym (rw (ok, le-ltb (length buffer) most_data room) refl)

  -- and back
  pub collect_known : collect_refusal sound buffer ≡ taken → (sound ≡ true) × (most_data ≤ length buffer)
  collect_known fine =
      split sound
      (λ ok. split (ltb (length buffer) most_data)
      (λ less. let e : ◌≡◌ {A = ℕ} room_refused taken = rw (ok, less) at fine in let b : ⊥ = omega arith in absurd b)
      (λ room. (ok, ltb-false (length buffer) most_data room)))
      (λ bad. let e : ◌≡◌ {A = ℕ} state_refused taken = rw bad at fine in let b : ⊥ = omega arith in absurd b)

module _ (sound : Bool) (a : Application) (result : ℕ) where
  pub report_outside : sound ≡ false → state_refused ≡ report_refusal sound a result
  report_outside bad = sym (rw bad refl)

  pub report_above : sound ≡ true → 0xFD < result → result_refused ≡ report_refusal sound a result
  report_above ok above = sym (rw (ok, lt-ltb 0xFD result above) refl)

  module _ (ok : sound ≡ true) (small : result ≤ 0xFD) where
    pub report_unasked : is_collected a ≡ false → result_refused ≡ report_refusal sound a result
    report_unasked none = sym (rw (ok, le-ltb 0xFD result small, none) refl)

    pub report_fine : is_collected a ≡ true → taken ≡ report_refusal sound a result
    report_fine some = sym (rw (ok, le-ltb 0xFD result small, some) refl)

  -- and back
  pub report_known : report_refusal sound a result ≡ taken → (sound ≡ true) × (result ≤ 0xFD) × (is_collected a ≡ true)
  report_known fine =
      split sound
      (λ ok. split (ltb 0xFD result)
      (λ above. let e : ◌≡◌ {A = ℕ} result_refused taken = rw (ok, above) at fine in let b : ⊥ = omega arith in absurd b)
      (λ small. split (is_collected a)
      (λ some. (ok, ltb-false 0xFD result small, some))
      (λ none. let e : ◌≡◌ {A = ℕ} result_refused taken = rw (ok, small, none) at fine in let b : ⊥ = omega arith in absurd b)))
      (λ bad. let e : ◌≡◌ {A = ℕ} state_refused taken = rw bad at fine in let b : ⊥ = omega arith in absurd b)
