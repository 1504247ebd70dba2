-- The sum: what every message, answer and file of the house adds up to.
use Rattle.std.specs.Prelude.{Bool, List, [], ◌∷◌, ℕ, ◌+◌, ◌-◌, ◌%◌, eqb}

abbrev pub total : List ℕ → ℕ
total [] = 0
total (b ∷ bs) = b + total bs

-- "add up to 0 modulo 256"
abbrev pub adds_up : List ℕ → Bool
adds_up bs = eqb (total bs % 256) 0

-- the byte that makes these add up
abbrev pub sum_byte_of : List ℕ → ℕ
sum_byte_of bs = (256 - total bs % 256) % 256
