-- What the reader's calls promise: the result and every lent byte, refused or not. At exit the block holds the encoding of the
-- definition's next reader, and bytes behind it keep their values.
use Rattle.std.specs.Prelude.{◌≡◌, cond, not, List, ℕ, eqb, leb, length}
use Rattle.std.proofs.lemmas.List.Edits.{sets}
use Rattle.document.specs.Numbers.{taken, state_refused, sum_refused}
use Rattle.document.specs.AnswerReader.{Brought, begin_refusal, read_room_refusal, read_buffer}
use Rattle.document.specs.AnswerReader.Brought.{nothing, answer, wrong}
use Rattle.line_reader.specs.Reader.{Step, sound, fresh, stepped}
use Rattle.call_reader.specs.Layout.{reader_length, decoded_reader, encoded_reader}
use Rattle.call_reader.specs.declared.calls.ReadByte.{ReadByte}

-- ---- the beginning of a reading

-- it knows 1, of a block that is too short, and 5; what the block holds does not matter
abbrev pub begin_number : List ℕ → ℕ → ℕ
begin_number block expected = cond (leb reader_length (length block)) (begin_refusal expected) state_refused

pub record BeginDone (block : List ℕ) (expected r : ℕ) (after : List ℕ) : Type 0 where
  pub result : r ≡ begin_number block expected
  pub reader :
      after ≡ cond (eqb (begin_number block expected) taken) (sets block 0 (encoded_reader (fresh expected))) block

-- ---- a byte

-- "Lowest number first": 1, then 3
abbrev pub read_number : List ℕ → List ℕ → ℕ
read_number block buffer =
    cond (leb reader_length (length block)) (cond (not (sound (decoded_reader block))) state_refused (read_room_refusal buffer)) state_refused

abbrev pub without : ℕ → ReadByte
without refusal = record { refusal = refusal; whole = 0; status = 0; length = 0 }

-- what a byte that is taken gives: a right answer's status, and how many data it has; without one all are 0
abbrev pub read_of : Brought → ReadByte
read_of nothing = without taken
read_of (answer a) = record { refusal = taken; whole = 1; status = a.status; length = length a.body }
read_of wrong = without sum_refused

-- a byte that nothing refuses
pub record ByteRead (s : Step) (block buffer : List ℕ) (r : ReadByte) (after told : List ℕ) : Type 0 where
  pub result : r ≡ read_of s.brings
  pub reader : after ≡ sets block 0 (encoded_reader s.next)
  pub buffer_told : told ≡ read_buffer s.brings buffer

pub record ReadDone (block : List ℕ) (b : ℕ) (buffer : List ℕ) (r : ReadByte) (after told : List ℕ) : Type 0 where
  pub result :
      r
      ≡ cond (eqb (read_number block buffer) taken) (read_of (stepped (decoded_reader block) b).brings)
      (without (read_number block buffer))
  pub reader :
      after
      ≡ cond (eqb (read_number block buffer) taken) (sets block 0 (encoded_reader (stepped (decoded_reader block) b).next)) block
  pub buffer_told :
      told ≡ cond (eqb (read_number block buffer) taken) (read_buffer (stepped (decoded_reader block) b).brings buffer) buffer
