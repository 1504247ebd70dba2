-- A run of the answer reader's calls since a reading began: each brings its byte and lends a buffer of its own, refused ones among them.
use Rattle.std.specs.Prelude.{◌≡◌, false, List, [], ◌∷◌, ℕ, ◌<◌, ◌≤◌, length}
use Rattle.document.specs.Numbers.{most_data, sum_refused}
use Rattle.document.specs.Answer.{Reading, reading_right, answer_finished_by}
use Rattle.document.specs.AnswerReader.{brought, read_buffer}
use Rattle.document.specs.AnswerReader.Brought.{wrong}
use Rattle.line_reader.specs.Reader.{idle}
use Rattle.call_reader.specs.declared.calls.ReadByte.{ReadByte}
use Rattle.call_reader.specs.Layout.{decoded_reader}
use Rattle.call_reader.specs.Promises.{read_of, ReadDone}

-- `log_gate_reader_byte` was called
pub record ByRead (block : List ℕ) (b : ℕ) (next : List ℕ) : Type 0 where
  pub buffer : List ℕ
  pub result : ReadByte
  pub told : List ℕ
  pub promised : ReadDone block b buffer result next told

-- the bytes that were taken, from one block to another
pub data Readings : List ℕ → List ℕ → List ℕ → Type 0 where
  ends : (block : List ℕ) → Readings block [] block
  reads : (block next last : List ℕ) (b : ℕ) (bs : List ℕ) (call : ByRead block b next) → most_data ≤ length call.buffer
      → Readings next bs last → Readings block (b ∷ bs) last
  -- "consume no byte": a call that is refused with 3 brings none
  refuses : (block next last : List ℕ) (b : ℕ) (bs : List ℕ) (call : ByRead block b next) → length call.buffer < most_data
      → Readings next bs last → Readings block bs last

-- what a call with room gives at the byte b, behind the bytes bs since a reading of n data began
pub record Reads (n : ℕ) (bs : List ℕ) (b : ℕ) (buffer : List ℕ) (r : ReadByte) (next told : List ℕ) : Type 0 where
  pub result : r ≡ read_of (brought n bs b)
  pub buffer_told : told ≡ read_buffer (brought n bs b) buffer
  -- "6 alone consumes its byte and leaves the reader idle."
  pub idle_after : brought n bs b ≡ wrong → (decoded_reader next).phase ≡ idle

-- "6 a finished answer whose sum is wrong": the byte b finishes one
pub record FinishedWrong (n : ℕ) (bs : List ℕ) (b : ℕ) : Type 0 where
  pub reading : Reading
  pub others : List Reading
  pub finished : answer_finished_by n bs b ≡ reading ∷ others
  pub wrong : reading_right reading ≡ false

-- 6 is said exactly then; without room it is 3, and the byte has not come
pub record SixExactly (n : ℕ) (bs : List ℕ) (b : ℕ) (buffer : List ℕ) (r : ReadByte) : Type 0 where
  pub only : r.refusal ≡ sum_refused → (most_data ≤ length buffer) × FinishedWrong n bs b
  pub always : most_data ≤ length buffer → FinishedWrong n bs b → r.refusal ≡ sum_refused
