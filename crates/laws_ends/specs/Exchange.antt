-- A message and its answer, seen from the other end of the cable: the bytes that the command writer wrote, and what the answer reader gives
-- when the answer comes to it byte by byte.
use Rattle.std.specs.Prelude.{◌≡◌, false, List, [], ◌∷◌, ◌++◌, ℕ, ◌≤◌, length, take}
use Rattle.std.proofs.lemmas.List.Edits.{sets}
use Rattle.document.specs.Numbers.{most_data, taken, is_error}
use Rattle.document.specs.Answer.{Answer}
use Rattle.line_wire.specs.declared.Written.{Written}
use Rattle.line_commands.specs.CommandWritten.{CommandWritten}
use Rattle.call_reader.specs.Promises.{BeginDone, without}
use Rattle.laws_ends.specs.Readings.{ByRead, Readings}

-- `log_gate_write_command` was called, with whatever buffer, and did not refuse: these bytes it says that it wrote
pub record Wrote (command : ℕ) (body bytes : List ℕ) : Type 0 where
  pub before : List ℕ
  pub result : Written
  pub after : List ℕ
  pub promised : CommandWritten command body before result after
  pub fine : result.refusal ≡ taken
  pub wire : bytes ≡ take result.length after

-- `log_gate_reader_begin` was called for n data, and did not refuse; these bytes were taken since
pub record ReadSince (n : ℕ) (bytes block : List ℕ) : Type 0 where
  pub lent : List ℕ
  pub number : ℕ
  pub begun : List ℕ
  pub promised : BeginDone lent n number begun
  pub fine : number ≡ taken
  pub run : Readings begun bytes block

-- "data of the length fixed when the reading began follow a clear top bit, none a set one": the right length is that of the data; where
-- the answer is an error any will do
abbrev pub Expects : ℕ → Answer → Type 0
Expects n a = is_error a.status ≡ false → n ≡ length a.body

-- an answer came over this wire, and each of its bytes went to the reader by a call with room
pub record ReadBack (n : ℕ) (a : Answer) (wire : List ℕ) : Type 0 where
  -- at its last byte the call gives its status and its data, "and writes them only with a whole right answer"
  pub last : (front : List ℕ) (b : ℕ) → wire ≡ front ++ (b ∷ []) → (block next : List ℕ) → ReadSince n front block
      → (call : ByRead block b next) → most_data ≤ length call.buffer
      → (call.result ≡ record { refusal = taken; whole = 1; status = a.status; length = length a.body })
      × (call.told ≡ sets call.buffer 0 a.body)
  -- and nothing before
  pub before : (front : List ℕ) (b c : ℕ) (rest : List ℕ) → wire ≡ front ++ (b ∷ c ∷ rest) → (block next : List ℕ) → ReadSince n front block
      → (call : ByRead block b next) → most_data ≤ length call.buffer
      → (call.result ≡ without taken) × (call.told ≡ call.buffer)
