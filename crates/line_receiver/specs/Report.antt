-- The receiver with the 64-byte body beside it, over the bytes since reset: what it holds and what it reports.
use Rattle.std.specs.Prelude.{ℕ, ◌%◌, length, take, set}
use mathlib.Core.List.{List, [], ◌∷◌, ◌++◌, foldl}
use Rattle.document.specs.Sum.{total}
use Rattle.document.specs.Message.{Message, length_part}
use Rattle.line_receiver.specs.declared.Receiver.{Receiver}
use Rattle.line_receiver.specs.declared.Event.{Event}
use Rattle.line_receiver.specs.declared.Event.TheVariants.{Nothing, Keep, Whole}
use Rattle.line_receiver.specs.Bounds.{fresh}
use Rattle.line_receiver.specs.Step.{stepped}

-- what is left of a message: "A data part holds at most 64 bytes", so no more are kept
pub record HeldMessage : Type 0 where
  pub command : ℕ
  pub length : ℕ
  pub kept : List ℕ
  pub sum : ℕ

-- "Command, length if present, data and sum byte add up": the sum is 0 where they do
abbrev pub held : Message → HeldMessage
held m =
    record {
      command = m.command;
      length = length m.body;
      kept = take 64 m.body;
      sum = total (m.command ∷ length_part m.command m.body ++ m.body ++ (m.sum_byte ∷ [])) % 256;
    }

pub record Beside : Type 0 where
  pub receiver : Receiver
  pub body : List ℕ

-- what an event does to the body
abbrev pub body_after : Event → List ℕ → List ℕ
body_after Nothing body = body
body_after (Keep at byte) body = set body at byte
body_after (Whole command length sum) body = body

-- what an event reports
abbrev pub report_of : Event → List ℕ → List HeldMessage
report_of Nothing body = []
report_of (Keep at byte) body = []
report_of (Whole command length sum) body =
    record { command = command; length = length; kept = take length body; sum = sum } ∷ []

abbrev pub on_byte : Beside → ℕ → Beside
on_byte s b =
    record {
      receiver = (stepped s.receiver b).next;
      body = body_after (stepped s.receiver b).event s.body;
    }

abbrev pub reported_at : Beside → ℕ → List HeldMessage
reported_at s b = report_of (stepped s.receiver b).event s.body

-- a fresh receiver beside a body, after the bytes since reset
abbrev pub since_reset : List ℕ → List ℕ → Beside
since_reset body bs = foldl on_byte (record { receiver = fresh; body = body }) bs

-- what is reported of the byte b behind the bytes bs since reset
abbrev pub reporting : List ℕ → List ℕ → ℕ → List HeldMessage
reporting body bs b = reported_at (since_reset body bs) b
