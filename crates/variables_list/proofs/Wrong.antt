-- What is left where nothing is wrong.
use mathlib.Core.Path.{◌≡◌}
use mathlib.Core.Bool.{false}
use Prim.Native.Nat.{ℕ, ◌≤◌}
use lib.Dec.{eqb, ltb}
use borrow.Author.Tests.{eqb-false, ltb-false}
use Rattle.document.specs.Variables.{count_wrong}
use Rattle.document.proofs.Cases.{none_of}

pub count_right : (n : ℕ) → count_wrong n ≡ false → (n ≡ 0 → ⊥) × (n ≤ 8)
count_right n e = let k = none_of (eqb n 0) (ltb 8 n) e in (eqb-false n 0 k.0, ltb-false 8 n k.1)
