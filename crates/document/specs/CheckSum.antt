-- The check sum of the second port (2026-07), bit by bit: a register of 16 bits through which all bytes of a frame are shifted.
use Rattle.std.specs.Prelude.{Bool, cond, List, [], ◌∷◌, ◌++◌, ℕ, zero, suc, ◌-◌, ◌/◌, ◌%◌, eqb, length, take, drop}
use Rattle.std.specs.Int.Bits.{bit_xor}
use Rattle.document.specs.Values.{number, little_endian}

abbrev pub generator : ℕ
generator = 0xA001

-- one bit to the right; where a 1 fell out, an exclusive or with the generator
unfoldable pub shifted : ℕ → ℕ
shifted register = bit_xor (register / 2) (cond (eqb (register % 2) 1) generator 0)

unfoldable pub shifts : ℕ → ℕ → ℕ
shifts zero register = register
shifts (suc n) register = shifts n (shifted register)

-- a byte goes into the low half by an exclusive or; eight shifts follow
unfoldable pub stepped : ℕ → ℕ → ℕ
stepped register byte = shifts 8 (bit_xor register byte)

abbrev pub register_after : ℕ → List ℕ → ℕ
register_after register [] = register
register_after register (b ∷ bs) = register_after (stepped register b) bs

-- it starts with every bit set
unfoldable pub check_sum : List ℕ → ℕ
check_sum bytes = register_after 0xFFFF bytes

-- sent behind the bytes, low byte first
abbrev pub with_check_sum : List ℕ → List ℕ
with_check_sum bytes = bytes ++ little_endian 2 (check_sum bytes)

-- not "a wrong check sum": the last two bytes are that of the bytes before them
abbrev pub is_check_sum_right : List ℕ → Bool
is_check_sum_right frame = eqb (number (drop (length frame - 2) frame)) (check_sum (take (length frame - 2) frame))
