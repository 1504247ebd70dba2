-- How many bytes come before a 0x2B, one byte at a time.
use mathlib.Core.Path.{◌≡◌, refl, ap, ◌∙◌}
use mathlib.Core.List.{List, ◌∷◌}
use Prim.Native.Nat.{ℕ, suc, ◌+◌, ◌-◌, ◌<◌}
use native.Mathlib.Numerals.{add-one}
use native.Mathlib.Omega.{arith}
use borrow.Author.Tests.{eq-eqb, ne_eqb}
use lib.ListN.{length, get_or, drop}
use lib.Seq.{drop-cons}
use Rattle.state_byte.specs.Quiet.{plain_ahead}

module _ (bytes : List ℕ) (i end : ℕ) (before : i < end) (inside : i < length bytes) where
  first : plain_ahead (end - i) (drop i bytes) ≡ plain_ahead (suc (end - (i + 1))) (get_or bytes i 0 ∷ drop (i + 1) bytes)
  first =
      let m : end - i ≡ suc (end - (i + 1)) = omega arith in
      (λ k. plain_ahead (m k) (drop i bytes)) ∙ rw (add-one i, drop-cons bytes i 0 inside) refl

  pub ahead_plus : get_or bytes i 0 ≡ 0x2B → plain_ahead (end - i) (drop i bytes) ≡ 0
  ahead_plus e = first ∙ rw (eq-eqb (get_or bytes i 0) 0x2B e) refl

  pub ahead_other : (get_or bytes i 0 ≡ 0x2B → ⊥) → plain_ahead (end - i) (drop i bytes) ≡ suc (plain_ahead (end - (i + 1)) (drop (i + 1) bytes))
  ahead_other n = first ∙ rw (ne_eqb (get_or bytes i 0) 0x2B n) refl

pub ahead_end : (bytes : List ℕ) (i end : ℕ) → end - i ≡ 0 → plain_ahead (end - i) (drop i bytes) ≡ 0
ahead_end bytes i end e = ap (λ (n : ℕ). plain_ahead n (drop i bytes)) e
