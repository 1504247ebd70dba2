-- A whole message has the length that its command's framing gives.
use Prim.Native.Nat.{ℕ}
use mathlib.Core.Path.{◌≡◌}
use mathlib.Core.Bool.{true, cond}
use native.Mathlib.Omega.{arith}
use lib.Dec.{ltb, eqb}
use Rattle.document.proofs.Cases.{split}
use Rattle.line_receiver.specs.declared.Receiver.{Receiver}
use Rattle.line_receiver.specs.declared.Event.TheVariants.{Nothing, Keep, Whole}
use Rattle.line_receiver.specs.Bounds.{data_next, sum_next, length_right, sound}
use Rattle.line_receiver.specs.Step.{plus, added, literal_event, byte_event, stepped}
use Rattle.line_receiver.proofs.Sound.{sum_of}

module _ (b c n sum : ℕ) where
  from_nothing : Nothing ≡ Whole c n sum → length_right c n ≡ true
  from_nothing e = let z : ◌≡◌ {A = ℕ} 0 1 = cc in absurd (omega arith)

  from_keep : (have : ℕ) → Keep have b ≡ Whole c n sum → length_right c n ≡ true
  from_keep have e = let z : ◌≡◌ {A = ℕ} 0 1 = cc in absurd (omega arith)

  from_data : (have : ℕ) → cond (ltb have 64) (Keep have b) Nothing ≡ Whole c n sum → length_right c n ≡ true
  from_data have e = split (ltb have 64) (λ t. from_keep have (rw t at e)) (λ f. from_nothing (rw f at e))

  from_sum : (command length total : ℕ) → length_right command length ≡ true → Whole command length total ≡ Whole c n sum → length_right c n ≡ true
  from_sum command length total right e =
      let same : command ≡ c = cc in
      let long : length ≡ n = cc in
      rw (← same, ← long) right

  from_literal : (r : Receiver) → sound r ≡ true → literal_event r b ≡ Whole c n sum → length_right c n ≡ true
  from_literal r ok e =
      split (eqb r.phase data_next)
      (λ d. from_data r.have (rw d at e))
      (λ nd. split (eqb r.phase sum_next)
      (λ s. from_sum r.command r.length (added r.sum b) (sum_of r ok s).0 (rw (nd, s) at e))
      (λ ns. from_nothing (rw (nd, ns) at e)))

  pub whole_fits : (r : Receiver) → sound r ≡ true → (stepped r b).event ≡ Whole c n sum → length_right c n ≡ true
  unfolding stepped byte_event
  whole_fits r ok e =
      split (eqb (plus b) r.waiting) (λ t. from_literal r ok (rw t at e)) (λ f. from_nothing (rw f at e))
