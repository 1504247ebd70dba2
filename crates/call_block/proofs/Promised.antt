-- A block that is refused, and one that is taken.
use mathlib.Core.Path.{◌≡◌, refl, ◌∙◌}
use mathlib.Core.List.{List}
use Prim.Native.Nat.{ℕ}
use borrow.Author.Tests.{eq-eqb, ne_eqb}
use Rattle.document.specs.Numbers.{taken}
use Rattle.call_checks.specs.Promises.{byte_number}
use Rattle.call_block.specs.declared.Going.{Going}
use Rattle.call_block.specs.Going.{Gone}
use Rattle.call_block.specs.Promises.{BlockDone}

module _ (block bytes memory buffer : List ℕ) where
  pub block_refused : (r : ℕ) → r ≡ byte_number block memory buffer → (r ≡ taken → ⊥)
      → BlockDone block bytes memory buffer (record { refusal = r; taken = 0; written = 0 }) block memory buffer
  block_refused r is refused =
      let some = ne_eqb (byte_number block memory buffer) taken (λ e. refused (is ∙ e)) in
      record {
        result = rw some (λ i. record { refusal = is i; taken = 0; written = 0 });
        state = rw some refl;
        memory_left = rw some refl;
        buffer_told = rw some refl;
      }

  pub block_taken : byte_number block memory buffer ≡ taken → (r : Going) (after left told : List ℕ) → Gone bytes r block memory buffer after left told
      → BlockDone block bytes memory buffer (record { refusal = taken; taken = r.taken; written = r.written }) after left told
  block_taken fine r after left told gone =
      let none = eq-eqb (byte_number block memory buffer) taken fine in
      record {
        result = rw none (λ i. record { refusal = taken; taken = gone.taken i; written = gone.written i });
        state = rw none gone.state;
        memory_left = rw none gone.memory_left;
        buffer_told = rw none gone.buffer_told;
      }
