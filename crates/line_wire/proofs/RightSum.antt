-- The sum byte makes any list of bytes add up to 0 modulo 256.
use Prim.Native.Nat.{ℕ, ◌+◌, ◌%◌}
use mathlib.Core.Path.{◌≡◌, sym}
use mathlib.Core.List.{List, [], ◌∷◌, ◌++◌}
use mathlib.Core.Bool.{true}
use native.Mathlib.Nat.{zero-add}
use native.Mathlib.Omega.{arith}
use borrow.Author.Tests.{eq-eqb}
use Rattle.document.specs.Sum.{total, adds_up, sum_byte_of}

pub total_append : (bs cs : List ℕ) → total (bs ++ cs) ≡ total bs + total cs
total_append [] cs = sym (zero-add (total cs))
total_append (b ∷ bs) cs = omega (arith, total_append bs cs)

pub sum_right_lem : (bs : List ℕ) → total (bs ++ (sum_byte_of bs ∷ [])) % 256 ≡ 0
sum_right_lem bs = omega (arith, total_append bs (sum_byte_of bs ∷ []))

pub adds_up_lem : (bs : List ℕ) → adds_up (bs ++ (sum_byte_of bs ∷ [])) ≡ true
adds_up_lem bs = eq-eqb _ 0 (sum_right_lem bs)
