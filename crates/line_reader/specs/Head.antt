-- The head of a reader, its six bytes in front of the data: a step of it is the reader's step, whatever data stand behind.
use Rattle.std.specs.Prelude.{List, ℕ, ◌+◌, take, set}
use Rattle.document.specs.AnswerReader.{Brought}
use Rattle.document.specs.AnswerReader.Brought.{nothing, answer, wrong}
use Rattle.line_reader.specs.declared.head.Head.{Head}
use Rattle.line_reader.specs.declared.head.Asked.{Asked}
use Rattle.line_reader.specs.declared.head.Asked.TheVariants as asked
use Rattle.line_reader.specs.declared.head.Stepped.{Stepped}
use Rattle.line_reader.specs.Reader.{AnswerReader, Step}

abbrev pub with_body : Head → List ℕ → AnswerReader
with_body h body =
    record {
      waiting = h.waiting;
      phase = h.phase;
      status = h.status;
      expected = h.expected;
      have = h.have;
      sum = h.sum;
      body = body;
    }

-- what a byte asks for does to the data
abbrev pub body_after : Asked → List ℕ → List ℕ
body_after asked.Nothing body = body
body_after (asked.Keep at b) body = set body at b
body_after (asked.Right status n) body = body
body_after asked.Wrong body = body

-- and what it brings
abbrev pub bringing : Asked → List ℕ → Brought
bringing asked.Nothing body = nothing
bringing (asked.Keep at b) body = nothing
bringing (asked.Right status n) body = answer (record { status = status; body = take n body })
bringing asked.Wrong body = wrong

-- how far into the data it reaches
abbrev pub reach : Asked → ℕ
reach asked.Nothing = 0
reach (asked.Keep at b) = at + 1
reach (asked.Right status n) = n
reach asked.Wrong = 0

abbrev pub head_step : Stepped → List ℕ → Step
head_step s body = record { next = with_body s.next (body_after s.asks body); brings = bringing s.asks body }
