-- Numbers of n bytes, at every n from 1 to 4, as two's complement: below the half they stand for themselves, from it on for
-- what is missing to the whole.
use mathlib.Core.Path.{◌≡◌, sym, ap, ◌∙◌}
use Prim.Native.Nat.{ℕ, zero, suc, ◌+◌, ◌-◌, ◌*◌, ◌^◌, ◌%◌, ◌<◌, ◌≤◌}
use native.Mathlib.Nat.{pow-suc, one-mul}
use native.Mathlib.Omega.{arith}
use lib.Dec.{lit<}
use lib.Pow.{shl_exact}
use lib.IntN.{pos, negsuc, ◌-ℤ◌, +ℤ_idl}
use mir.Val.{SFits, to_z, of_z}
use mir.Syntax.{w64}
use mir.Facts.{to_z_pos, to_z-of_z}
use borrow.Author.Tests.{lt-ltb, le-ltb}
use Rattle.document.specs.Values.{twos_complement}
use Rattle.memory_ranges.proofs.Widths.{four_bytes}

pub shifted : (n : ℕ) → n ≤ 4 → 1 * 2 ^ (8 * n - 1) % 2 ^ 64 ≡ 2 ^ (8 * n - 1)
shifted n h = shl_exact 1 (8 * n - 1) 64 (lit< tt) (omega arith) ∙ one-mul (2 ^ (8 * n - 1))

double : (n : ℕ) → 1 ≤ n → 2 ^ (8 * n) ≡ 2 ^ (8 * n - 1) * 2
double n h =
    let e : 8 * n ≡ suc (8 * n - 1) = omega arith in
    ap (λ (k : ℕ). 2 ^ k) e ∙ pow-suc 2 (8 * n - 1)

minus : (d : ℕ) → 0 < d → pos 0 -ℤ pos d ≡ negsuc (d - 1)
minus zero h = let f : ⊥ = omega arith in absurd f
minus (suc e) h =
    let p : suc e - 1 ≡ e = omega arith in
    +ℤ_idl (negsuc e) ∙ ap negsuc (sym p)

module _ (n x h : ℕ) (n1 : 1 ≤ n) (n4 : n ≤ 4) (eh : h ≡ 2 ^ (8 * n - 1)) (hx : x < 2 ^ (8 * n)) where
  -- the sum of two halves is the whole, and fits
  pub halves : (h + h ≡ 2 ^ (8 * n)) × (2 ^ (8 * n) ≤ 4294967296)
  halves = (omega (arith, double n n1), four_bytes n n4)

  pub top_clear : x < h → to_z w64 x ≡ twos_complement n x
  top_clear l = rw (lt-ltb x (2 ^ (8 * n - 1)) (omega arith)) (to_z_pos w64 (omega (arith, halves)))

  pub top_set_fits : h ≤ x → SFits w64 (pos 0 -ℤ to_z w64 ((h + h) - x))
  top_set_fits l =
      rw (to_z_pos w64 {n = (h + h) - x} (omega (arith, halves)), minus ((h + h) - x) (omega (arith, halves)))
      (record { sfits = omega (arith, halves) })

  pub top_set : h ≤ x → to_z w64 (of_z w64 (pos 0 -ℤ to_z w64 ((h + h) - x))) ≡ twos_complement n x
  top_set l =
      let e : ((h + h) - x) - 1 ≡ 2 ^ (8 * n) - suc x = omega (arith, halves) in
      to_z-of_z (top_set_fits l)
      ∙ rw (le-ltb x (2 ^ (8 * n - 1)) (omega arith), to_z_pos w64 {n = (h + h) - x} (omega (arith, halves)), minus ((h + h) - x) (omega (arith, halves)), e)
