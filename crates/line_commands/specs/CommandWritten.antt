-- The command writer's promise: its result and the whole lent buffer, refused or not.
use Rattle.std.specs.Prelude.{◌≡◌, List, ℕ}
use Rattle.document.specs.CommandWriter.{command_refusal, command_written, command_buffer}
use Rattle.line_wire.specs.declared.Written.{Written}

pub record CommandWritten (command : ℕ) (body before : List ℕ) (r : Written) (after : List ℕ) : Type 0 where
  pub result : r ≡ record { refusal = command_refusal command body before; length = command_written command body before }
  pub buffer : after ≡ command_buffer command body before
