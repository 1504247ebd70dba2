-- Further rows for the table of the staples: messages to which two refusals apply, and the commands that document 01
-- names as not served.
use Rattle.std.specs.Prelude.{List, [], ◌∷◌, ◌++◌, map, ℕ, replicate}
use Rattle.document.specs.Run.{started}
use Rattle.document.specs.Happenings.Happening.{byte}
use Rattle.document.specs.Rows.{zeros}
use Rattle.document_worked.specs.Staples.{Case, case, rising_setup, rising_gate}

-- a row that is refused with one answer and changes nothing; its number is the status that it gets
abbrev pub refused_with : ℕ → ℕ → List ℕ → Case
refused_with status sum_byte bytes = case status zeros bytes ((0x2B ∷ status ∷ sum_byte ∷ []) ∷ []) zeros

-- "the first that applies in this order"
unfoldable pub orders : List Case
orders =
    -- a wrong sum, and a length byte above 64
    refused_with 0x82 0x7E ((0x2B ∷ 0x02 ∷ 0x41 ∷ []) ++ replicate 65 0x00 ++ (0x00 ∷ []))
    -- a length byte above 64, and a command that is not served
    ∷ refused_with 0x83 0x7D ((0x2B ∷ 0x7F ∷ 0x41 ∷ []) ++ replicate 65 0x00 ++ (0x40 ∷ []))
    -- a recorder setup while it runs, and no data
    ∷ record {
      number = 0x87;
      memory = zeros;
      happenings = map byte (rising_setup 0 0x4A ++ (0x2B ∷ 0x09 ∷ 0x00 ∷ 0xF7 ∷ []));
      shows = record { answers = (0x2B ∷ 0x00 ∷ 0x00 ∷ []) ∷ (0x2B ∷ 0x87 ∷ 0x79 ∷ []) ∷ []; gate = rising_gate 0 zeros started };
    }
    -- no data, and so a count of 0
    ∷ refused_with 0x85 0x7B (0x2B ∷ 0x08 ∷ 0x00 ∷ 0xF8 ∷ [])
    -- a size of 0, and an address beyond the memory
    ∷ refused_with 0x86 0x7A (0x2B ∷ 0x02 ∷ 0x03 ∷ 0x00 ∷ 0x00 ∷ 0x40 ∷ 0xBB ∷ [])
    -- 65 bytes, and an address beyond the memory
    ∷ refused_with 0x84 0x7C (0x2B ∷ 0x01 ∷ 0x03 ∷ 0x41 ∷ 0x00 ∷ 0x40 ∷ 0x7B ∷ [])
    ∷ []

-- "0x12 keeps 0x81" (2026-03)
unfoldable pub not_served_cases : List Case
not_served_cases = refused_with 0x81 0x7F (0x2B ∷ 0x12 ∷ 0x00 ∷ 0xEE ∷ []) ∷ []
