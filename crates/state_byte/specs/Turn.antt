-- A byte of the line, taken by the receiver, kept, or answered: how long the answer is, and the state, memory and buffer behind it.
use Rattle.std.specs.Prelude.{List, ℕ, length, take, set}
use Rattle.std.proofs.lemmas.List.Edits.{sets}
use Rattle.document.specs.Answer.{answer_on_wire}
use Rattle.document.specs.Gate.{Outcome}
use Rattle.line_receiver.specs.declared.Receiver.{Receiver}
use Rattle.line_receiver.specs.declared.Event.{Event}
use Rattle.line_receiver.specs.declared.Event.TheVariants.{Nothing, Keep, Whole}
use Rattle.line_receiver.specs.Report.{HeldMessage}
use Rattle.line_receiver.specs.Step.{stepped}
use Rattle.state_parts.specs.State.{with_instruments, Target, gate_of}
use Rattle.state_byte.specs.AnsweredHeld.{answered_held, instruments_held}

pub record Turn : Type 0 where
  pub length : ℕ
  pub next : Target
  pub memory : List ℕ
  pub buffer : List ℕ

abbrev pub with_receiver : Target → Receiver → Target
with_receiver t r = record { receiver = r; body = t.body; instruments = t.instruments }

-- no answer: "without an answer, all do" keep their values
abbrev pub silent : Target → List ℕ → List ℕ → Turn
silent t memory buffer = record { length = 0; next = t; memory = memory; buffer = buffer }

abbrev pub keeping : Target → ℕ → ℕ → Target
keeping t at b = record { receiver = t.receiver; body = set t.body at b; instruments = t.instruments }

-- once the receiver has heard a byte: data are kept
abbrev pub kept_by : Target → Event → Target
kept_by t Nothing = t
kept_by t (Keep at b) = keeping t at b
kept_by t (Whole command n sum) = t

abbrev pub hearing : Target → ℕ → Target
hearing t b = kept_by (with_receiver t (stepped t.receiver b).next) (stepped t.receiver b).event

-- what is held of the message that a byte has finished
abbrev pub held_by : Target → ℕ → ℕ → ℕ → HeldMessage
held_by t command n sum = record { command = command; length = n; kept = take n t.body; sum = sum }

abbrev pub telling : Target → HeldMessage → Outcome → List ℕ → Turn
telling t h o buffer =
    record {
      length = length (answer_on_wire o.answer);
      next = with_instruments t (instruments_held t.instruments h);
      memory = o.gate.memory;
      buffer = sets buffer 0 (answer_on_wire o.answer);
    }

-- the turn of a byte that has finished a message
abbrev pub answering : Target → ℕ → ℕ → ℕ → List ℕ → List ℕ → Turn
answering t command n sum memory buffer =
    telling t (held_by t command n sum) (answered_held (gate_of t.instruments memory) (held_by t command n sum)) buffer

abbrev pub on_event : Target → Event → List ℕ → List ℕ → Turn
on_event t Nothing memory buffer = silent t memory buffer
on_event t (Keep at b) memory buffer = silent (keeping t at b) memory buffer
on_event t (Whole command n sum) memory buffer = answering t command n sum memory buffer

unfoldable pub turn : Target → ℕ → List ℕ → List ℕ → Turn
turn t b memory buffer = on_event (with_receiver t (stepped t.receiver b).next) (stepped t.receiver b).event memory buffer
