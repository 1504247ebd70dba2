-- Runs of 0x2B, as demand 3 counts them: without the start byte, back to the last other byte or to reset.
use Rattle.std.specs.Prelude.{ℕ, zero, suc, Bool, false, cond, not, eqb}
use mathlib.Core.List.{List, foldl}

-- a 0x2B makes the run longer, another byte ends it
abbrev pub run_behind : ℕ → ℕ → ℕ
run_behind n b = cond (eqb b 0x2B) (suc n) 0

-- how many 0x2B stand at the end of the bytes
abbrev pub run : List ℕ → ℕ
run bs = foldl run_behind 0 bs

abbrev pub odd : ℕ → Bool
odd zero = false
odd (suc n) = not (odd n)

-- an even run, or none, is what this is false of
unfoldable pub odd_run : List ℕ → Bool
odd_run bs = odd (run bs)
