-- Noise on the second port's wire: the damage to a frame that its check sum always notices.
use Rattle.std.specs.Prelude.{◌≡◌, List, ℕ, ◌+◌, ◌*◌, ◌^◌, ◌%◌, ◌<◌, length}
use Rattle.modbus_check_sums.specs.Flips.{flips, bits_set}

-- which of its bits are flipped, counted from the first on the wire
pub data Damaged (sent got : List ℕ) : Type 0 where
  -- one, or several that all lie within 16 neighbours from the k-th on
  neighbours : (w k : ℕ) → 0 < w → w < 2 ^ 16 → flips sent got ≡ w * 2 ^ k → Damaged sent got
  -- any two, however far apart
  two : (i j : ℕ) → i < j → flips sent got ≡ 2 ^ i + 2 ^ j → Damaged sent got
  -- any odd number of them
  odd : bits_set (length sent * 8) (flips sent got) % 2 ≡ 1 → Damaged sent got
