-- Single bits, in which "A bit set in the mask takes the value's bit; every other bit stays." can be read.
use Rattle.std.specs.Prelude.{ℕ, zero, suc, ◌/◌, ◌%◌}

-- bit i of x, 0 or 1, the lowest being bit 0
abbrev pub bit : ℕ → ℕ → ℕ
bit zero x = x % 2
bit (suc i) x = bit i (x / 2)
