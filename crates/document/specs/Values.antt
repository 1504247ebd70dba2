-- The numbers that bytes hold: "little-endian", at every width.
use Rattle.std.specs.Prelude.{cond, List, [], ◌∷◌, ℕ, zero, suc, ◌+◌, ◌-◌, ◌*◌, ◌^◌, ◌/◌, ◌%◌, ℤ, pos, negsuc, ltb, eqb}

-- lowest byte first
abbrev pub number : List ℕ → ℕ
number [] = 0
number (b ∷ bs) = b + 256 * number bs

-- the n bytes of x, lowest first
abbrev pub little_endian : ℕ → ℕ → List ℕ
little_endian zero x = []
little_endian (suc n) x = x % 256 ∷ little_endian n (x / 256)

-- "two's complement of the trigger size": x of n bytes, its top bit counting below 0
abbrev pub twos_complement : ℕ → ℕ → ℤ
twos_complement n x = cond (ltb x (2 ^ (8 * n - 1))) (pos x) (negsuc (2 ^ (8 * n) - suc x))

-- "Sign 1 reads both as two's complement of the trigger size, sign 0 as unsigned."
abbrev pub signed_value : ℕ → ℕ → ℕ → ℤ
signed_value sign n x = cond (eqb sign 1) (twos_complement n x) (pos x)
