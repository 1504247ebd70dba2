-- Runs exist: a list of what happens to a gate since reset, every kind of thing among it, that meets all that the laws ask for. Its parts are
-- named as the laws ask for them.
use Rattle.std.specs.Prelude.{true, false, List, [], ◌∷◌, ◌++◌, ℕ, replicate, set}
use Rattle.document.specs.Hex.{hex}
use Rattle.document.specs.Message.{Message, summed}
use Rattle.document.specs.Plan.{Plan}
use Rattle.document.specs.Run.{Run}
use Rattle.document.specs.Run.Watch.{previous}
use Rattle.document.specs.Gate.{fresh}
use Rattle.document.specs.Asides.Aside.{tick, writes, collects, reports, prepares, starts, frames}
use Rattle.document.specs.Happenings.{Happening, Since, after_all, from_reset}
use Rattle.document.specs.Happenings.Happening.{byte, aside}

abbrev pub zeros : List ℕ
zeros = replicate 16384 0

abbrev pub reset : Since
reset = from_reset (fresh zeros)

-- ---- the panel prepares the recorder and starts it

-- two places for byte 0, at whose rise to 5 the trigger comes; one further set
abbrev pub setup : List ℕ
setup = hex "01 0200 0100 0000 0000 01 00 05000000 01 01 0000"

abbrev pub plan : Plan
plan =
    record {
      samples = 2;
      post_trigger = 1;
      divider = 0;
      trigger = record { mode = 1; address = 0; size = 1; sign = 0; threshold = 5 };
      variables = record { address = 0; size = 1 } ∷ [];
    }

abbrev pub before : List Happening
before = aside (prepares setup) ∷ aside starts ∷ []

abbrev pub begun : Since
begun = after_all reset before

-- ---- since that start, until the trigger comes

-- the gate's own program writes up to the buffer, and no command is there to collect; the panel prepares and starts nothing anew, since
-- the recorder runs
abbrev pub meanwhile : List Happening
meanwhile = aside (writes 8 (0xFF ∷ [])) ∷ aside (writes 12287 (1 ∷ [])) ∷ aside collects ∷ aside (prepares setup) ∷ aside starts ∷ []

-- 0xC1 but for its last byte: of a running recorder it starts nothing anew either
abbrev pub start : Message
start = summed 0xC1 []

abbrev pub starting : List Happening
starting = byte 0x2B ∷ byte 0xC1 ∷ []

-- a tick in the midst of it, which takes a set; behind it a frame without a byte, which gets silence
abbrev pub first_set : List Happening
first_set = aside tick ∷ byte 0x3F ∷ aside (frames 1 []) ∷ []

-- an application command but for its last byte, and in the midst of it the controller writes 7 to register 0
abbrev pub command : Message
command = summed 0x10 (0xF0 ∷ [])

abbrev pub rising : List ℕ
rising = hex "F7 06 0000 0007 DC9E"

abbrev pub sending : List Happening
sending = byte 0x2B ∷ byte 0x10 ∷ byte 0x01 ∷ byte 0xF0 ∷ aside (frames 247 rising) ∷ []

abbrev pub earlier : List Happening
earlier = meanwhile ++ starting ++ first_set ++ sending ++ (byte 0xFF ∷ [])

-- one set is taken, and at the next tick the trigger comes
abbrev pub risen : Since
risen = after_all reset (before ++ earlier)

abbrev pub one_taken : Run
one_taken = record { running = true; wait = 0; place = 1; full = false; watch = previous 0 }

-- ---- behind the tick at which it comes

-- the command is pending: it is collected in the midst of 0xC6, which is here but for its last byte
abbrev pub question : Message
question = summed 0xC6 []

abbrev pub awaiting : List Happening
awaiting = byte 0x2B ∷ aside collects ∷ byte 0xC6 ∷ []

-- another 0x10 but for its last byte
abbrev pub repeating : List Happening
repeating = byte 0x2B ∷ byte 0x10 ∷ byte 0x01 ∷ byte 0xF0 ∷ []

-- 0xE3 writes 9 to byte 0, nothing is there to collect, and the further set is taken
abbrev pub last_set : List Happening
last_set =
    byte 0x2B ∷ byte 0xE3 ∷ byte 0x00 ∷ byte 0x00 ∷ byte 0x09 ∷ byte 0x00 ∷ byte 0x14
    ∷ aside collects ∷ aside tick ∷ []

abbrev pub pending : List Happening
pending = awaiting ++ (byte 0x3A ∷ repeating) ++ (byte 0xFF ∷ last_set)

abbrev pub until_report : List Happening
until_report = before ++ earlier ++ (aside tick ∷ pending)

-- behind its report 0xC6 again but for its last byte; the recorder has stopped
abbrev pub asking : List Happening
asking = aside collects ∷ byte 0x2B ∷ aside tick ∷ byte 0xC6 ∷ []

abbrev pub later : List Happening
later = pending ++ (aside (reports 0xFD) ∷ asking) ++ (byte 0x3A ∷ [])

-- the panel's preparing of nothing is refused; 0xC2
abbrev pub stopping : List Happening
stopping = aside (prepares []) ∷ byte 0x2B ∷ byte 0xC2 ∷ byte 0x3E ∷ []

-- all since the panel's start
abbrev pub since : List Happening
since = earlier ++ (aside tick ∷ later) ++ stopping

-- ---- and 0xC1 again, which starts the stopped recorder

abbrev pub happened : List Happening
happened = before ++ since ++ starting ++ (byte 0x3F ∷ [])

-- ---- two ports, one memory: two more lists, over a memory with another byte, on which the gate's own program writes

abbrev pub stale : Since
stale = from_reset (fresh (set zeros 8 1))

-- the same with further frames: a silent one, and some that write 5 to register 3, and 0 again before a command is finished or the gate ticks
abbrev pub raised : List ℕ
raised = hex "F7 06 0003 0005 AD5F"

abbrev pub lowered : List ℕ
lowered = hex "F7 06 0003 0000 6D5C"

abbrev pub disturbed : List Happening
disturbed =
    (aside (frames 247 raised) ∷ before)
    ++ meanwhile
    ++ starting
    ++ (aside (frames 247 lowered) ∷ first_set)
    ++ sending
    ++ (byte 0xFF ∷ aside (frames 1 []) ∷ aside tick ∷ pending)
    ++ (aside (frames 247 raised) ∷ aside (reports 0xFD) ∷ aside (frames 247 lowered) ∷ asking)
    ++ (byte 0x3A ∷ stopping)
    ++ starting
    ++ (byte 0x3F ∷ [])

-- the same without service traffic
abbrev pub unattended : List Happening
unattended = aside (writes 8 (0xFF ∷ [])) ∷ aside (writes 12287 (1 ∷ [])) ∷ aside (frames 1 []) ∷ aside (frames 247 rising) ∷ []
