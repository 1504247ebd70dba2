-- A reader that was stored is the reader that the block holds.
use mathlib.Core.Path.{◌≡◌, ap, ◌∙◌}
use mathlib.Core.List.{List, ◌++◌}
use Prim.Native.Nat.{ℕ, ◌+◌, ◌≤◌}
use native.Mathlib.Omega.{arith}
use lib.ListN.{length, drop}
use lib.Seq.{sets, sets-eq, take_at}
use Rattle.document.specs.Numbers.{most_data}
use Rattle.line_reader.specs.Reader.{AnswerReader}
use Rattle.call_reader.specs.Layout.{body_place, reader_length, decoded_reader, encoded_reader}

encoded_length : (r : AnswerReader) → length (encoded_reader r) ≡ body_place + length r.body
unfolding encoded_reader
encoded_length r = omega arith

reader_back : (r : AnswerReader) (rest : List ℕ) → length r.body ≡ most_data → decoded_reader (encoded_reader r ++ rest) ≡ r
unfolding decoded_reader encoded_reader
reader_back r rest e =
    λ i.
    record {
      waiting = r.waiting;
      phase = r.phase;
      status = r.status;
      expected = r.expected;
      have = r.have;
      sum = r.sum;
      body = take_at r.body rest most_data e i;
    }

pub stored_reader : (block : List ℕ) (r : AnswerReader) → reader_length ≤ length block → length r.body ≡ most_data
    → decoded_reader (sets block 0 (encoded_reader r)) ≡ r
stored_reader block r long e =
    ap decoded_reader (sets-eq (encoded_reader r) block 0 (omega (arith, encoded_length r)))
    ∙ reader_back r (drop (0 + length (encoded_reader r)) block) e
