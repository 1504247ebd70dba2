-- What is held of a whole message: what the receiver tells, with the data that stand in the body.
use Rattle.std.specs.Prelude.{List, ℕ, take}
use Rattle.line_receiver.specs.Report.{HeldMessage}
use Rattle.serve_message.specs.declared.Whole.{Whole}

abbrev pub held_of : Whole → List ℕ → HeldMessage
held_of w body = record { command = w.command; length = w.length; kept = take w.length body; sum = w.sum }
