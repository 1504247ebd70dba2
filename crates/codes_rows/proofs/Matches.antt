-- What the last arm knows of a match whose keys count up from 0: the number lies behind them all.
use mathlib.Core.Path.{◌≡◌, sym}
use mathlib.Core.List.{List}
use Prim.Native.Nat.{ℕ, zero, suc, ◌≤◌}
use native.Mathlib.Omega.{arith}
use lib.ListN.{get_or, length, get_or-eq_default}

-- none of the k numbers from 0 on
abbrev pub NoneOf : ℕ → ℕ → Type 0
NoneOf zero n = Unit {0}
NoneOf (suc k) n = NoneOf k n × (n ≡ k → ⊥)

pub missed : (k n : ℕ) → NoneOf k n → k ≤ n
missed zero n none = omega arith
missed (suc k) n none = omega (arith, missed k n none.0, none.1)

pub beyond : {A : Type 0} (l : List A) (d : A) (n : ℕ) → NoneOf (length l) n → d ≡ get_or l n d
beyond l d n none = sym (get_or-eq_default l d (missed (length l) n none))
