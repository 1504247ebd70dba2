-- Adler-32 of RFC 1950: two sums modulo the largest prime below 65,536, in one number.
use Rattle.std.specs.Prelude.{List, [], ◌∷◌, ℕ, ◌+◌, ◌*◌, ◌%◌}

-- "s1 is the sum of all bytes, s2 is the sum of all s1 values": the number from these sums on
abbrev pub adler_from : ℕ → ℕ → List ℕ → ℕ
adler_from s1 s2 [] = s2 * 65536 + s1
adler_from s1 s2 (b ∷ bs) = adler_from ((s1 + b) % 65521) ((s2 + (s1 + b) % 65521) % 65521) bs

-- "s1 initialized to 1, s2 initialized to zero"
abbrev pub adler32 : List ℕ → ℕ
adler32 bs = adler_from 1 0 bs
