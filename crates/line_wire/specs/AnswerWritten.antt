-- The answer writer's promise: its result and the whole lent buffer, refused or not.
use Rattle.std.specs.Prelude.{◌≡◌, List, ℕ}
use Rattle.document.specs.Answer.{Answer}
use Rattle.document.specs.AnswerWriter.{answer_refusal, answer_written, answer_buffer}
use Rattle.line_wire.specs.declared.Written.{Written}

pub record AnswerWritten (a : Answer) (before : List ℕ) (r : Written) (after : List ℕ) : Type 0 where
  pub result : r ≡ record { refusal = answer_refusal a before; length = answer_written a before }
  pub buffer : after ≡ answer_buffer a before
