-- A block too short, outside the bounds, or within them.
use mathlib.Core.Path.{◌≡◌, refl, sym, ap}
use mathlib.Core.Bool.{Bool, true, false, cond}
use mathlib.Core.List.{List}
use Prim.Native.Nat.{ℕ, ◌<◌, ◌≤◌}
use native.Mathlib.Omega.{arith}
use borrow.Author.Tests.{le-leb, lt-leb, leb-true}
use lib.Dec.{leb}
use lib.ListN.{length}
use lib.Seq.{sets}
use Rattle.codes_table.specs.declared.calls.Refusal.{Refusal}
use Rattle.codes_table.specs.Calls.{refusal_number}
use Rattle.codes_table.proofs.Refusals.{refusal_some}
use Rattle.document.specs.Numbers.{taken, state_refused}
use Rattle.document.proofs.Cases.{split, and_left, and_right}
use Rattle.state_parts.specs.Bounds.{sound, fresh}
use Rattle.state_block.specs.Places.{state_length}
use Rattle.state_block.specs.Layout.{decoded, encoded}
use Rattle.call_checks.specs.Promises.{block_sound, panel_number, ResetDone, Checked}

module _ (block : List ℕ) where
  pub too_short : length block < state_length → false ≡ block_sound block
  too_short h = sym (rw (lt-leb state_length (length block) h) refl)

  pub long_decides : state_length ≤ length block → (t : Bool) → t ≡ sound (decoded block) → t ≡ block_sound block
  long_decides h t e = rw (le-leb state_length (length block) h) e

  pub block_known : block_sound block ≡ true → (state_length ≤ length block) × (sound (decoded block) ≡ true)
  block_known e =
      (leb-true state_length (length block) (and_left (leb state_length (length block)) (sound (decoded block)) e), and_right (leb state_length (length block)) (sound (decoded block)) e)

  pub panel_known : panel_number block ≡ taken → (state_length ≤ length block) × (sound (decoded block) ≡ true)
  panel_known fine =
      split (block_sound block)
      (λ ok. block_known ok)
      (λ bad. let e : ◌≡◌ {A = ℕ} state_refused taken = rw bad at fine in let z : ⊥ = omega arith in absurd z)

  pub panel_outside : (refusal : Refusal) → refusal_number refusal ≡ panel_number block → block_sound block ≡ false
  panel_outside refusal said = split (block_sound block) (λ ok. absurd (refusal_some refusal (rw ok at said))) (λ bad. bad)

  pub checked : (t : Bool) → t ≡ block_sound block → Checked block (cond t taken state_refused)
  checked t e = record { result = ap (λ (k : Bool). cond k taken state_refused) e }

  pub reset_refused : length block < state_length → ResetDone block state_refused block
  reset_refused h = record { result = rw (lt-leb state_length (length block) h) refl; state = rw (lt-leb state_length (length block) h) refl }

  pub reset_done : state_length ≤ length block → (after : List ℕ) → after ≡ sets block 0 (encoded fresh) → ResetDone block taken after
  reset_done h after e = record { result = rw (le-leb state_length (length block) h) refl; state = rw (le-leb state_length (length block) h) e }
