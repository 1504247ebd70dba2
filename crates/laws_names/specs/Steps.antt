-- "The process of reading out all TSA tables" of source document 000, as a technician's tool follows it with nothing but the
-- answers. No step changes the gate (`gate_stays` of proofs/Asked), so each is asked of the same one.
use Rattle.std.specs.Prelude.{Bool, cond, ◌&&◌, List, [], ◌∷◌, ◌++◌, map, ℕ, zero, suc, ◌+◌, ◌/◌, ◌%◌, eqb}
use Rattle.document.specs.Numbers.{most_data, done}
use Rattle.document.specs.Areas.{bytes_at}
use Rattle.document.specs.Values.{number, little_endian}
use Rattle.document.specs.Message.{summed}
use Rattle.document.specs.Answer.{Answer}
use Rattle.document.specs.Tables.{Table}
use Rattle.document.specs.Gate.{Gate}
use Rattle.document.specs.Commands.{answered}
use Rattle.laws_names.specs.Names.{Named}

-- the answer to a command and data with their right sum byte
unfoldable pub asked : Gate → ℕ → List ℕ → Answer
asked g command body = (answered g (summed command body)).answer

-- "If a positive status is returned (MCB_STS_OK)": what came with it
abbrev pub received : Answer → List ℕ
received a = cond (eqb a.status done) a.body []

-- ---- the tables

-- "tsaFlags", "tblSize", "tblAddr"
abbrev pub table_in : List ℕ → Table
table_in info = record { address = number (bytes_at info 4 2); size = number (bytes_at info 2 2) }

-- 1. "Issue the MCB_CMD_GETTSAINFO command for table index 0", 11. "retrieve information about the next TSA table": "Two bytes with
-- the index". It is never refused (`table_answered`), so 2. "When invalid command error is returned" does not arise.
abbrev pub table_asked : Gate → ℕ → Table
table_asked g index = table_in (received (asked g 0x11 (little_endian 2 index)))

-- 3. "but the response data contains zero address and size, you have reached the end of TSA table list"
abbrev pub is_end : Table → Bool
is_end t = eqb t.address 0 && eqb t.size 0

-- 3. "Exit the TSA read-out process", else the table and those behind it
abbrev pub unless_end : Table → List Table → List Table
unless_end t behind = cond (is_end t) [] (t ∷ behind)

-- 11. "and repeat the process from step 3", so many times at most
abbrev pub tables_asked : Gate → ℕ → ℕ → List Table
tables_asked g zero index = []
tables_asked g (suc looks) index = unless_end (table_asked g index) (tables_asked g looks (index + 1))

-- 16 tables and the zeros behind them
abbrev pub most_looks : ℕ
most_looks = 17

abbrev pub tables_read : Gate → List Table
tables_read g = tables_asked g most_looks 0

-- ---- their entries, and the strings

-- 4. and 9. "use the MCB_CMD_READMEM command": a size, 1 to 64, and an address of 2 bytes
abbrev pub piece_read : Gate → ℕ → ℕ → List ℕ
piece_read g address size = received (asked g 0x01 (size ∷ little_endian 2 address))

-- so many pieces of 64 bytes, and the rest, where there is one
abbrev pub pieces_read : Gate → ℕ → ℕ → ℕ → List ℕ
pieces_read g zero address rest = cond (eqb rest 0) [] (piece_read g address rest)
pieces_read g (suc n) address rest = piece_read g address most_data ++ pieces_read g n (address + most_data) rest

abbrev pub bytes_read : Gate → ℕ → ℕ → List ℕ
bytes_read g address size = pieces_read g (size / most_data) address (size % most_data)

-- 8. "use the MCB_CMD_GETSTRLEN command to obtain length of the name": nothing is to be read where it is refused
abbrev pub length_asked : Gate → ℕ → ℕ
length_asked g address = number (received (asked g 0xD4 (little_endian 2 address)))

-- 9. "Use the MCB CMD READMEM command to read both strings"
abbrev pub string_read : Gate → ℕ → List ℕ
string_read g address = bytes_read g address (length_asked g address)

-- 7. "two string pointers in each table entry called name and type", and behind them "addr" and "info"
abbrev pub parameter_in : List ℕ → ℕ → ℕ
parameter_in entry place = number (bytes_at entry place 2)

abbrev pub named_in : Gate → List ℕ → Named
named_in g entry =
    record {
      name = string_read g (parameter_in entry 0);
      type = string_read g (parameter_in entry 2);
      address = parameter_in entry 4;
      info = parameter_in entry 6;
    }

-- 4. "read the whole table content", here entry by entry, and 10. "Repeat steps 8 and 9 for each table entry": n of them
abbrev pub names_asked : Gate → ℕ → ℕ → List Named
names_asked g entry zero = []
names_asked g entry (suc n) = named_in g (piece_read g entry 8) ∷ names_asked g (entry + 8) n

-- 5. the flags that are told are 2, the version alone, so 6. "Calculate the number of table entries by dividing the table size by 8"
abbrev pub table_read : Gate → Table → List Named
table_read g t = names_asked g t.address (t.size / 8)

-- all of it: for each table, for each entry, its name, type, address and info
unfoldable pub names_read : Gate → List (List Named)
names_read g = map (table_read g) (tables_read g)
