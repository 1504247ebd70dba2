-- The list "Commands": what each served command does, whether it is an EX command, and its size.
use Rattle.std.specs.Prelude.{Bool, true, false, cond, ◌||◌, List, [], ◌∷◌, ℕ, eqb}
use Rattle.document.specs.declared.Operation.{Operation}
use Rattle.document.specs.declared.Operation.TheVariants.{Unserved, Describe, DescribeBriefly, Read, Write, WriteMasked, SetUpScope, ReadScope, PrepareAndStart, Start, Stop, Status, QueryBuffer, SendCommand, CommandResult, TellTable, MeasureString}
use Rattle.document.specs.declared.Service.{Service}

-- a line of the list
pub record Listed : Type 0 where
  pub command : ℕ
  pub service : Service

-- ---- how a line is written: a size of 0 is one that the data begin with, or none

abbrev plain : ℕ → Operation → ℕ → Listed
plain c operation size = record { command = c; service = record { operation = operation; ex = false; size = size } }

-- "(EX 0xE0, ..)"
abbrev ex : ℕ → Operation → ℕ → Listed
ex c operation size = record { command = c; service = record { operation = operation; ex = true; size = size } }

-- ---- the list, in the document's order

abbrev pub commands : List Listed
commands =
    plain 0xC0 Describe 0
    ∷ plain 0xC8 DescribeBriefly 0
    -- "0xD0, 0xD1, 0xD2 (EX 0xE0, 0xE1, 0xE2): 1, 2, 4 bytes at an address."
    ∷ plain 0xD0 Read 1
    ∷ plain 0xD1 Read 2
    ∷ plain 0xD2 Read 4
    ∷ ex 0xE0 Read 1
    ∷ ex 0xE1 Read 2
    ∷ ex 0xE2 Read 4
    -- "0xE3, 0xE4, 0xF0: write 1, 2, 4 bytes."
    ∷ plain 0xE3 Write 1
    ∷ plain 0xE4 Write 2
    ∷ plain 0xF0 Write 4
    -- "0xE5, 0xF1: address, value, mask of 1 or 2 bytes."
    ∷ plain 0xE5 WriteMasked 1
    ∷ plain 0xF1 WriteMasked 2
    -- "0x01 (0x04) size, address: read. 0x02 (0x05) size, address, data: write. 0x03 (0x06) size, address, data, then as many
    -- mask bytes."
    ∷ plain 0x01 Read 0
    ∷ ex 0x04 Read 0
    ∷ plain 0x02 Write 0
    ∷ ex 0x05 Write 0
    ∷ plain 0x03 WriteMasked 0
    ∷ ex 0x06 WriteMasked 0
    -- "0x08 (0x0A)", "0xC5"
    ∷ plain 0x08 SetUpScope 0
    ∷ ex 0x0A SetUpScope 0
    ∷ plain 0xC5 ReadScope 0
    -- "0x09 (0x0B)"
    ∷ plain 0x09 PrepareAndStart 0
    ∷ ex 0x0B PrepareAndStart 0
    -- "0xC1", "0xC2", "0xC3", "0xC4 (0xC9)"
    ∷ plain 0xC1 Start 0
    ∷ plain 0xC2 Stop 0
    ∷ plain 0xC3 Status 0
    ∷ plain 0xC4 QueryBuffer 0
    ∷ ex 0xC9 QueryBuffer 0
    -- "Command 0x10", "0xC6" (2026-01)
    ∷ plain 0x10 SendCommand 0
    ∷ plain 0xC6 CommandResult 0
    -- "Serve 0x11, 0xD4 and 0xE6" (2026-03)
    ∷ plain 0x11 TellTable 0
    ∷ plain 0xD4 MeasureString 0
    ∷ ex 0xE6 MeasureString 0
    ∷ []

-- "the command is not one of those below"
abbrev unserved : Service
unserved = record { operation = Unserved; ex = false; size = 0 }

abbrev listed_as : ℕ → List Listed → Service
listed_as c [] = unserved
listed_as c (l ∷ ls) = cond (eqb c l.command) l.service (listed_as c ls)

unfoldable pub service_of : ℕ → Service
service_of c = listed_as c commands

abbrev is_in : ℕ → List Listed → Bool
is_in c [] = false
is_in c (l ∷ ls) = eqb c l.command || is_in c ls

abbrev pub is_served : ℕ → Bool
is_served c = is_in c commands
