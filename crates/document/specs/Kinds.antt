-- "Every one of the 256 command values has a kind: fast, standard or not served."
use Rattle.std.specs.Prelude.{Bool, cond, ℕ, ◌*◌, ◌/◌, ◌%◌, ltb}
use Rattle.document.specs.Services.{is_served}

pub data Kind : Type 0 where
  fast : Kind
  standard : Kind
  unserved : Kind

-- "Below 0xC0 the next literal is the length"
abbrev pub has_length_byte : ℕ → Bool
has_length_byte c = ltb c 0xC0

-- "At 0xC0 and above, bits 5 and 4 give the data length as 0, 2, 4 or 6."
abbrev pub fast_length : ℕ → ℕ
fast_length c = c / 16 % 4 * 2

unfoldable pub kind_of : ℕ → Kind
kind_of c = cond (is_served c) (cond (has_length_byte c) standard fast) unserved
