-- Demand 1 at both ends of the line: "one number from the document, given exactly when the document says, and changes no byte lent to
-- the call".
use Rattle.std.specs.Prelude.{◌≡◌, List, ℕ}
use Rattle.std.proofs.lemmas.List.Edits.{sets}
use Rattle.document.specs.Numbers.{taken, sum_refused}
use Rattle.document.specs.AnswerReader.Brought.{wrong}
use Rattle.line_wire.specs.declared.Written.{Written}
use Rattle.line_reader.specs.Reader.{idle, stepped}
use Rattle.call_reader.specs.declared.calls.ReadByte.{ReadByte}
use Rattle.call_reader.specs.Layout.{decoded_reader, encoded_reader}
use Rattle.call_reader.specs.Promises.{begin_number, read_number}

-- a writer, of which `number` is what the document refuses with
pub record WriteRefused (number : ℕ) (before : List ℕ) (r : Written) (after : List ℕ) : Type 0 where
  pub refusal : r.refusal ≡ number
  pub unchanged : (r.refusal ≡ taken → ⊥) → (r.length ≡ 0) × (after ≡ before)

pub record BeginRefused (block : List ℕ) (expected r : ℕ) (after : List ℕ) : Type 0 where
  pub number : r ≡ begin_number block expected
  pub unchanged : (r ≡ taken → ⊥) → after ≡ block

-- "6 alone consumes its byte and leaves the reader idle": 1 and 3 leave all as it was, 6 the lent buffer
pub record ReadRefused (block : List ℕ) (b : ℕ) (buffer : List ℕ) (r : ReadByte) (after told : List ℕ) : Type 0 where
  pub unchanged :
      (read_number block buffer ≡ taken → ⊥)
      → (r.refusal ≡ read_number block buffer) × (r.whole ≡ 0) × (after ≡ block) × (told ≡ buffer)
  pub wrong_sum :
      read_number block buffer ≡ taken → (stepped (decoded_reader block) b).brings ≡ wrong
      → (r.refusal ≡ sum_refused) × (r.whole ≡ 0)
      × (after ≡ sets block 0 (encoded_reader (stepped (decoded_reader block) b).next))
      × ((stepped (decoded_reader block) b).next.phase ≡ idle)
      × (told ≡ buffer)
