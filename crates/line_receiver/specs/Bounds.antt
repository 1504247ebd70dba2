-- The receiver's state: what its numbers stand for, and which states are within bounds.
use Rattle.std.specs.Prelude.{ℕ, Bool, false, cond, not, ◌&&◌, ◌||◌, ltb, leb, eqb}
use Rattle.document.specs.Kinds.{has_length_byte, fast_length}
use Rattle.line_receiver.specs.declared.Receiver.{Receiver}

-- the phases: outside a message, or which literal comes next
abbrev pub idle : ℕ
idle = 0

abbrev pub length_next : ℕ
length_next = 1

abbrev pub data_next : ℕ
data_next = 2

abbrev pub sum_next : ℕ
sum_next = 3

-- reset: outside a message, and no 0x2B waits
abbrev pub fresh : Receiver
fresh = record { waiting = 0; phase = idle; command = 0; length = 0; have = 0; sum = 0 }

-- "At 0xC0 and above, bits 5 and 4 give the data length": below, any length goes
abbrev pub length_right : ℕ → ℕ → Bool
length_right c n = has_length_byte c || eqb n (fast_length c)

-- inside a message: data are to come, or all are there, or nothing is held before the length
abbrev pub inside_sound : ℕ → ℕ → ℕ → ℕ → Bool
inside_sound phase c n have =
    cond (eqb phase data_next)
    (length_right c n && ltb have n)
    (cond (eqb phase sum_next)
    (length_right c n && eqb have n)
    (cond (eqb phase length_next) (has_length_byte c && eqb have 0) false))

-- "1 a state outside the bounds listed in docs/" is this one's negation; "so a command is never 0x2B"
unfoldable pub sound : Receiver → Bool
sound r =
    leb r.waiting 1
    && (eqb r.phase idle
    || (not (eqb r.command 0x2B) && inside_sound r.phase r.command r.length r.have))
