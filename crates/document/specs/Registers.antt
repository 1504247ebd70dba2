-- The registers of the second port (2026-07): where they stand in the memory, and who may reach them.
use Rattle.std.specs.Prelude.{Bool, List, [], ◌∷◌, ℕ, ◌-◌, ◌*◌}
use Rattle.std.specs.Int.Bits.{bit_and, bit_or}
use Rattle.document.specs.Areas.{bytes_at, may_be_read}
use Rattle.document.specs.Values.{number, little_endian}
use Rattle.document.specs.Stores.{stored}
use Rattle.document.specs.Gate.{fresh}
use Rattle.document.specs.Permission.{may_be_written}

-- "low byte first in memory", and in a frame high byte first: the bytes of each register turned round
abbrev pub turned : List ℕ → List ℕ
turned [] = []
turned (a ∷ []) = []
turned (a ∷ b ∷ rest) = b ∷ a ∷ turned rest

-- "Register r is bytes 2r and 2r+1": so many of them from one on, as a frame has them
abbrev pub registers_at : List ℕ → ℕ → ℕ → List ℕ
registers_at memory first quantity = turned (bytes_at memory (2 * first) (2 * quantity))

abbrev pub registers_stored : List ℕ → ℕ → List ℕ → List ℕ
registers_stored memory first values = stored memory (2 * first) (turned values)

-- what function 22 makes of a register: its bits where the first mask has them, else those of the second mask
abbrev pub masked_both : ℕ → ℕ → ℕ → ℕ
masked_both old andMask orMask = bit_or (bit_and old andMask) (bit_and orMask (0xFFFF - andMask))

abbrev pub register_masked : List ℕ → ℕ → ℕ → ℕ → List ℕ
register_masked memory first andMask orMask =
    stored memory (2 * first) (little_endian 2 (masked_both (number (bytes_at memory (2 * first) 2)) andMask orMask))

-- "reads up to byte 16,383"
abbrev pub may_read_registers : ℕ → ℕ → Bool
may_read_registers first quantity = may_be_read (2 * first) (2 * quantity)

-- "writes up to 8,191", as on the service port. "Both ports share the memory and nothing else": a gate with this memory is asked
abbrev pub may_write_registers : List ℕ → ℕ → ℕ → Bool
may_write_registers memory first quantity = may_be_written (fresh memory) (2 * first) (2 * quantity)
