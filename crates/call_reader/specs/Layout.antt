-- The answer reader as a block of bytes: every block is a reader, and every reader a block. docs/STATE.md has the table of places.
use Rattle.std.specs.Prelude.{List, [], ◌∷◌, ℕ, ◌+◌, get_or}
use Rattle.document.specs.Numbers.{most_data}
use Rattle.document.specs.Areas.{bytes_at}
use Rattle.line_reader.specs.declared.head.Head.{Head}
use Rattle.line_reader.specs.Reader.{AnswerReader}

-- the six bytes of the head, and the data behind them
abbrev pub body_place : ℕ
body_place = 6

abbrev pub body_length : ℕ
body_length = most_data

abbrev pub reader_length : ℕ
reader_length = body_place + body_length

unfoldable pub decoded_reader : List ℕ → AnswerReader
decoded_reader block =
    record {
      waiting = get_or block 0 0;
      phase = get_or block 1 0;
      status = get_or block 2 0;
      expected = get_or block 3 0;
      have = get_or block 4 0;
      sum = get_or block 5 0;
      body = bytes_at block body_place body_length;
    }

abbrev pub encoded_head : Head → List ℕ
encoded_head h = h.waiting ∷ h.phase ∷ h.status ∷ h.expected ∷ h.have ∷ h.sum ∷ []

unfoldable pub encoded_reader : AnswerReader → List ℕ
encoded_reader r =
    r.waiting ∷ r.phase ∷ r.status ∷ r.expected ∷ r.have ∷ r.sum ∷ r.body
