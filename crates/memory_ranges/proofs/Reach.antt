-- A range tested without adding: the size is taken off the end.
use mathlib.Core.Path.{◌≡◌, refl}
use mathlib.Core.Bool.{Bool, true, false}
use Prim.Native.Nat.{ℕ, ◌+◌, ◌-◌, ◌≤◌}
use native.Mathlib.Omega.{arith}
use lib.Dec.{leb}
use borrow.Author.Tests.{le-leb, lt-leb, leb-true, leb-false}

pub size_off_end : (address size end place : ℕ) → size ≤ end → place ≡ address → leb place (end - size) ≡ leb (address + size) end
size_off_end a s e p h ep = by_test (leb (a + s) e) refl
  where
    by_test : (t : Bool) → leb (a + s) e ≡ t → leb p (e - s) ≡ leb (a + s) e
    by_test true y = rw (y, le-leb p (e - s) (omega (arith, leb-true (a + s) e y)))
    by_test false n = rw (n, lt-leb p (e - s) (omega (arith, leb-false (a + s) e n)))
