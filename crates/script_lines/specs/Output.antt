-- Where a byte of the output goes, and which characters a byte in hex is.
use Rattle.std.specs.Prelude.{cond, ℕ, ◌+◌, ltb}

-- a full buffer is written out first
abbrev pub place_of : ℕ → ℕ
place_of at = cond (ltb at 65536) at 0

-- upper case
abbrev pub glyph_of : ℕ → ℕ
glyph_of value = cond (ltb value 10) (48 + value) (55 + value)
