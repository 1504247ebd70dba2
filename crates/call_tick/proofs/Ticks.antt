-- A tick, refused and taken.
use mathlib.Core.Path.{◌≡◌, refl, sym, ◌∙◌}
use mathlib.Core.List.{List}
use Prim.Native.Nat.{ℕ}
use borrow.Author.Tests.{eq-eqb, ne_eqb}
use lib.Seq.{sets}
use Rattle.document.specs.Numbers.{taken}
use Rattle.document.specs.Recorder.{ticked_memory}
use Rattle.recorder_state.specs.State.{recorder_of}
use Rattle.state_block.specs.Layout.{decoded_recorder, decoded, encoded}
use Rattle.call_checks.specs.Promises.{tick_number}
use Rattle.call_tick.specs.Promises.{ticked_target, TickTaken}

module _ (block memory : List ℕ) where
  pub tick_refused : (k : ℕ) → k ≡ tick_number block memory → (k ≡ taken → ⊥) → TickTaken block memory k block memory
  tick_refused k e some =
      let refused = ne_eqb (tick_number block memory) taken (λ z. some (e ∙ z)) in
      record { result = e; state = rw refused refl; memory_left = rw refused refl }

  pub tick_taken : (after left : List ℕ) → tick_number block memory ≡ taken → after ≡ sets block 0 (encoded (ticked_target (decoded block) memory))
      → left ≡ ticked_memory (recorder_of (decoded_recorder block)) memory → TickTaken block memory taken after left
  tick_taken after left fine s m =
      let none = eq-eqb (tick_number block memory) taken fine in
      record { result = sym fine; state = rw none s; memory_left = rw none m }
