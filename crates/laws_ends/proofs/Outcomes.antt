-- "show that two outcomes allowed by one promise are equal": of the calls of both ends of the line, result and every lent byte.
use mathlib.Core.Path.{◌≡◌, sym, ◌∙◌}
use mathlib.Core.List.{List}
use Prim.Native.Nat.{ℕ}
use Rattle.document.specs.Answer.{Answer}
use Rattle.line_wire.specs.declared.Written.{Written}
use Rattle.line_wire.specs.AnswerWritten.{AnswerWritten}
use Rattle.line_commands.specs.CommandWritten.{CommandWritten}
use Rattle.call_reader.specs.declared.calls.ReadByte.{ReadByte}
use Rattle.call_reader.specs.Promises.{BeginDone, ReadDone}

module _ (block : List ℕ) (r s : ℕ) (x y : List ℕ) where
  pub begin_one_outcome : (expected : ℕ) → BeginDone block expected r x → BeginDone block expected s y → (r ≡ s) × (x ≡ y)
  begin_one_outcome expected p q = (p.result ∙ sym q.result, p.reader ∙ sym q.reader)

module _ (block : List ℕ) (b : ℕ) (buffer : List ℕ) (r s : ReadByte) (x y c d : List ℕ) where
  pub read_one_outcome : ReadDone block b buffer r x c → ReadDone block b buffer s y d → (r ≡ s) × (x ≡ y) × (c ≡ d)
  read_one_outcome p q = (p.result ∙ sym q.result, p.reader ∙ sym q.reader, p.buffer_told ∙ sym q.buffer_told)

module _ (before : List ℕ) (r s : Written) (x y : List ℕ) where
  pub answer_one_outcome : (a : Answer) → AnswerWritten a before r x → AnswerWritten a before s y → (r ≡ s) × (x ≡ y)
  answer_one_outcome a p q = (p.result ∙ sym q.result, p.buffer ∙ sym q.buffer)

  pub command_one_outcome : (command : ℕ) (body : List ℕ) → CommandWritten command body before r x → CommandWritten command body before s y
      → (r ≡ s) × (x ≡ y)
  command_one_outcome command body p q = (p.result ∙ sym q.result, p.buffer ∙ sym q.buffer)
