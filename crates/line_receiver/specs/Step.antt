-- What the receiver does with a byte: the pairing of the line and the parts of a message, one byte at a time.
use Rattle.std.specs.Prelude.{ℕ, ◌+◌, ◌%◌, cond, ltb, eqb}
use Rattle.document.specs.Kinds.{has_length_byte, fast_length}
use Rattle.line_receiver.specs.declared.Receiver.{Receiver}
use Rattle.line_receiver.specs.declared.Reaction.{Reaction}
use Rattle.line_receiver.specs.declared.Event.{Event}
use Rattle.line_receiver.specs.declared.Event.TheVariants.{Nothing, Keep, Whole}
use Rattle.line_receiver.specs.Bounds.{idle, length_next, data_next, sum_next}

-- 1 for a 0x2B, 0 for any other byte
abbrev pub plus : ℕ → ℕ
plus b = cond (eqb b 0x2B) 1 0

-- "add up .. modulo 256"
abbrev pub added : ℕ → ℕ → ℕ
added sum l = (sum + l) % 256

-- "Data and one sum byte follow.": data come next until all are there
abbrev pub next_phase : ℕ → ℕ → ℕ
next_phase have n = cond (ltb have n) data_next sum_next

-- "A start drops any unfinished message .. and opens a new one. The first literal after it is the command"
abbrev pub opened : ℕ → Receiver
opened c =
    record {
      waiting = 0;
      phase = cond (has_length_byte c) length_next (next_phase 0 (fast_length c));
      command = c;
      length = cond (has_length_byte c) 0 (fast_length c);
      have = 0;
      sum = c;
    }

-- "Below 0xC0 the next literal is the length"
abbrev pub measured : Receiver → ℕ → Receiver
measured r n =
    record {
      waiting = r.waiting;
      phase = next_phase r.have n;
      command = r.command;
      length = n;
      have = r.have;
      sum = added r.sum n;
    }

-- one data byte more, where one is to come
abbrev pub more : ℕ → ℕ → ℕ
more have n = cond (ltb have n) (have + 1) have

abbrev pub counted : Receiver → ℕ → Receiver
counted r l =
    record {
      waiting = r.waiting;
      phase = next_phase (more r.have r.length) r.length;
      command = r.command;
      length = r.length;
      have = more r.have r.length;
      sum = added r.sum l;
    }

-- a message is over
abbrev pub closed : Receiver → ℕ → Receiver
closed r l =
    record {
      waiting = r.waiting;
      phase = idle;
      command = r.command;
      length = r.length;
      have = r.have;
      sum = added r.sum l;
    }

-- "Literals outside a message are dropped."
abbrev pub after_literal : Receiver → ℕ → Receiver
after_literal r l =
    cond (eqb r.phase data_next)
    (counted r l)
    (cond (eqb r.phase sum_next) (closed r l) (cond (eqb r.phase length_next) (measured r l) r))

-- "A data part holds at most 64 bytes": a byte behind those is counted and summed, and not kept. "The answer comes with
-- the sum byte's last wire byte, once."
abbrev pub literal_event : Receiver → ℕ → Event
literal_event r l =
    cond (eqb r.phase data_next)
    (cond (ltb r.have 64) (Keep r.have l) Nothing)
    (cond (eqb r.phase sum_next) (Whole r.command r.length (added r.sum l)) Nothing)

abbrev pub with_waiting : ℕ → Receiver → Receiver
with_waiting w r =
    record { waiting = w; phase = r.phase; command = r.command; length = r.length; have = r.have; sum = r.sum }

-- "0x2B followed by 0x2B is one literal 0x2B. 0x2B followed by another byte is a start, and that other byte is a
-- literal. A last 0x2B without a follower waits. All other bytes are literals."
unfoldable pub after_byte : Receiver → ℕ → Receiver
after_byte r b =
    cond (eqb (plus b) r.waiting)
    (after_literal (with_waiting 0 r) b)
    (cond (eqb (plus b) 1) (with_waiting 1 r) (opened b))

unfoldable pub byte_event : Receiver → ℕ → Event
byte_event r b = cond (eqb (plus b) r.waiting) (literal_event r b) Nothing

unfoldable pub stepped : Receiver → ℕ → Reaction
stepped r b = record { next = after_byte r b; event = byte_event r b }
