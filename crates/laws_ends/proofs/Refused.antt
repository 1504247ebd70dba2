-- At both ends of the line a refused call leaves all as it was.
use mathlib.Core.Path.{◌≡◌, ap, ◌∙◌}
use mathlib.Core.List.{List}
use Prim.Native.Nat.{ℕ}
use lib.ListN.{length}
use lib.Seq.{sets}
use Rattle.document.specs.Numbers.{taken}
use Rattle.document.specs.Answer.{Answer, answer_on_wire}
use Rattle.document.specs.AnswerWriter.{answer_refusal, answer_written, answer_buffer}
use Rattle.document.specs.CommandWriter.{command_on_wire, command_refusal, command_written, command_buffer}
use Rattle.document.specs.AnswerReader.{Brought, read_buffer}
use Rattle.document.specs.AnswerReader.Brought.{wrong}
use Rattle.line_wire.specs.declared.Written.{Written}
use Rattle.line_wire.specs.AnswerWritten.{AnswerWritten}
use Rattle.line_commands.specs.CommandWritten.{CommandWritten}
use Rattle.line_reader.specs.Reader.{Step, fresh, stepped}
use Rattle.line_reader.proofs.Idle.{wrong_idle}
use Rattle.call_reader.specs.declared.calls.ReadByte.{ReadByte}
use Rattle.call_reader.specs.Layout.{decoded_reader, encoded_reader}
use Rattle.call_reader.specs.Promises.{begin_number, BeginDone, read_number, without, read_of, ReadDone}
use Rattle.laws_ends.specs.Refused.{WriteRefused, BeginRefused, ReadRefused}
use Rattle.laws_ends.proofs.ByNumber.{where_taken, where_refused}

pub answer_refused : (a : Answer) (before : List ℕ) (r : Written) (after : List ℕ) → AnswerWritten a before r after
    → WriteRefused (answer_refusal a before) before r after
unfolding answer_written answer_buffer
answer_refused a before r after promised =
    let number : r.refusal ≡ answer_refusal a before = ap (λ (w : Written). w.refusal) promised.result in
    record {
      refusal = number;
      unchanged = λ other.
          let no : answer_refusal a before ≡ taken → ⊥ = λ e. other (number ∙ e) in (
            where_refused (answer_refusal a before) r.length (length (answer_on_wire a)) 0 no (ap (λ (w : Written). w.length) promised.result),
            where_refused (answer_refusal a before) after (sets before 0 (answer_on_wire a)) before no promised.buffer,
          );
    }

pub command_refused : (command : ℕ) (body before : List ℕ) (r : Written) (after : List ℕ) → CommandWritten command body before r after
    → WriteRefused (command_refusal command body before) before r after
unfolding command_written command_buffer
command_refused command body before r after promised =
    let number : r.refusal ≡ command_refusal command body before = ap (λ (w : Written). w.refusal) promised.result in
    record {
      refusal = number;
      unchanged = λ other.
          let no : command_refusal command body before ≡ taken → ⊥ = λ e. other (number ∙ e) in (
            where_refused (command_refusal command body before) r.length (length (command_on_wire command body)) 0 no (ap (λ (w : Written). w.length) promised.result),
            where_refused (command_refusal command body before) after (sets before 0 (command_on_wire command body)) before no promised.buffer,
          );
    }

pub begin_refused : (block : List ℕ) (expected r : ℕ) (after : List ℕ) → BeginDone block expected r after → BeginRefused block expected r after
begin_refused block expected r after promised =
    record {
      number = promised.result;
      unchanged = λ other.
          where_refused (begin_number block expected) after (sets block 0 (encoded_reader (fresh expected))) block (λ e. other (promised.result ∙ e)) promised.reader;
    }

module _ (block : List ℕ) (b : ℕ) (buffer : List ℕ) (r : ReadByte) (after told : List ℕ) (promised : ReadDone block b buffer r after told) where
  abbrev step : Step
  step = stepped (decoded_reader block) b

  abbrev number : ℕ
  number = read_number block buffer

  pub read_refused : ReadRefused block b buffer r after told
  read_refused =
      record {
        unchanged = λ no.
            let same : r ≡ without number = where_refused number r (read_of step.brings) (without number) no promised.result in (
              ap (λ (q : ReadByte). q.refusal) same,
              ap (λ (q : ReadByte). q.whole) same,
              where_refused number after (sets block 0 (encoded_reader step.next)) block no promised.reader,
              where_refused number told (read_buffer step.brings buffer) buffer no promised.buffer_told,
            );
        wrong_sum = λ yes bad.
            let same : r ≡ read_of wrong =
            where_taken number r (read_of step.brings) (without number) yes promised.result ∙ ap read_of bad in (
              ap (λ (q : ReadByte). q.refusal) same,
              ap (λ (q : ReadByte). q.whole) same,
              where_taken number after (sets block 0 (encoded_reader step.next)) block yes promised.reader,
              wrong_idle (decoded_reader block) b bad,
              where_taken number told (read_buffer step.brings buffer) buffer yes promised.buffer_told
                  ∙ ap (λ (k : Brought). read_buffer k buffer) bad,
            );
      }
