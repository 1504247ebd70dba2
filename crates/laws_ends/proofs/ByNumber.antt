-- What a promise says by its refusal: what is given where nothing refuses, what is kept where something does.
use mathlib.Core.Path.{◌≡◌, ap, ◌∙◌}
use mathlib.Core.Bool.{cond}
use Prim.Native.Nat.{ℕ}
use borrow.Author.Tests.{ne_eqb}
use lib.Dec.{eqb}
use Rattle.document.specs.Numbers.{taken}

module _ {A : Type 0} (refusal : ℕ) (x given kept : A) where
  pub where_taken : refusal ≡ taken → x ≡ cond (eqb refusal taken) given kept → x ≡ given
  where_taken e h = h ∙ ap (λ (k : ℕ). cond (eqb k taken) given kept) e

  pub where_refused : (refusal ≡ taken → ⊥) → x ≡ cond (eqb refusal taken) given kept → x ≡ kept
  where_refused other h = h ∙ ap (λ (k : _). cond k given kept) (ne_eqb refusal taken other)
