-- The place of a byte that is to be kept lies in the 64-byte body, and the byte is the one that was taken.
use Prim.Native.Nat.{ℕ, ◌<◌}
use mathlib.Core.Path.{◌≡◌}
use mathlib.Core.Bool.{cond}
use native.Mathlib.Omega.{arith}
use borrow.Author.Tests.{ltb-true}
use lib.Dec.{ltb, eqb}
use Rattle.document.proofs.Cases.{split}
use Rattle.line_receiver.specs.declared.Receiver.{Receiver}
use Rattle.line_receiver.specs.declared.Event.TheVariants.{Nothing, Keep, Whole}
use Rattle.line_receiver.specs.Step.{plus, with_waiting, after_byte, byte_event, stepped}
use Rattle.line_receiver.proofs.Sound.{literal_taken, by_phase, literal_data, literal_sum, literal_length, literal_outside}

module _ (b place byte : ℕ) where
  abbrev InBody : Type 0
  InBody = (place < 64) × (byte ≡ b)

  from_nothing : Nothing ≡ Keep place byte → InBody
  from_nothing e = let z : ◌≡◌ {A = ℕ} 0 1 = cc in absurd (omega arith)

  from_whole : (c n sum : ℕ) → Whole c n sum ≡ Keep place byte → InBody
  from_whole c n sum e = let z : ◌≡◌ {A = ℕ} 0 1 = cc in absurd (omega arith)

  from_data : (have : ℕ) → cond (ltb have 64) (Keep have b) Nothing ≡ Keep place byte → InBody
  from_data have e =
      split (ltb have 64)
      (λ t. let same : Keep have b ≡ Keep place byte = rw t at e in
      let at : have ≡ place = cc in
      let taken : byte ≡ b = cc in
      (rw (← at) (ltb-true have 64 t), taken))
      (λ f. from_nothing (rw f at e))

  from_literal : (r : Receiver) → (literal_taken r b).event ≡ Keep place byte → InBody
  from_literal r e =
      by_phase r.phase
      (λ d. from_data r.have (rw (literal_data r b d) at e))
      (λ s. from_whole _ _ _ (rw (literal_sum r b s) at e))
      (λ l. from_nothing (rw (literal_length r b l) at e))
      (λ d s l. from_nothing (rw (literal_outside r b d s l) at e))

  pub kept_in_body : (r : Receiver) → (stepped r b).event ≡ Keep place byte → (place < 64) × (byte ≡ b)
  unfolding stepped after_byte byte_event literal_taken
  kept_in_body r e =
      split (eqb (plus b) r.waiting)
      (λ t. from_literal (with_waiting 0 r) (rw t at e))
      (λ f. from_nothing (rw f at e))
