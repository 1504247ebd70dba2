-- The exceptions in their order, and what is known where there is none.
use mathlib.Core.Path.{◌≡◌, ◌∙◌}
use mathlib.Core.Bool.{true, false}
use mathlib.Core.List.{List}
use Prim.Native.Nat.{ℕ, ◌≤◌}
use lib.ListN.{length}
use native.Mathlib.Omega.{arith}
use Rattle.document.specs.Numbers.{done}
use Rattle.document.specs.Modbus.{is_other, is_value_wrong, is_address_wrong, exception_to}
use Rattle.document.specs.declared.Function.{Function}
use Rattle.document.proofs.Cases.{split}
use Rattle.modbus_frames.proofs.WrongValues.{long_enough}

module _ (function : Function) (frame memory : List ℕ) where
  pub not_served_lem : is_other function ≡ true → 1 ≡ exception_to function frame memory
  unfolding exception_to
  not_served_lem other = rw other

  pub value_wrong : is_other function ≡ false → is_value_wrong function frame ≡ true → 3 ≡ exception_to function frame memory
  unfolding exception_to
  value_wrong served wrong = rw (served, wrong)

  pub address_wrong : is_other function ≡ false → is_value_wrong function frame ≡ false → is_address_wrong function frame memory ≡ true → 2 ≡ exception_to function frame memory
  unfolding exception_to
  address_wrong served value wrong = rw (served, value, wrong)

  -- ---- the other way round

  pub record Accepted : Type 0 where
    pub served : is_other function ≡ false
    pub value : is_value_wrong function frame ≡ false
    pub address : is_address_wrong function frame memory ≡ false

  pub accepted : exception_to function frame memory ≡ done → Accepted
  accepted none =
      split (is_other function) (λ other. let z : ⊥ = omega (arith, not_served_lem other ∙ none) in absurd z)
      (λ served.
      split (is_value_wrong function frame) (λ wrong. let z : ⊥ = omega (arith, value_wrong served wrong ∙ none) in absurd z)
      (λ value.
      split (is_address_wrong function frame memory) (λ wrong. let z : ⊥ = omega (arith, address_wrong served value wrong ∙ none) in absurd z)
      (λ address. record { served = served; value = value; address = address })))

  pub accepted_long : exception_to function frame memory ≡ done → 8 ≤ length frame
  accepted_long none = let ok = accepted none in long_enough function frame ok.served ok.value
