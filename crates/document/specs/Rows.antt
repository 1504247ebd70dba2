-- How the rows behind the staples are written: from reset, step by step, what happens and the answers that come.
use Rattle.std.specs.Prelude.{cond, List, [], ◌∷◌, ◌++◌, map, ℕ, ◌+◌, ◌-◌, ◌%◌, replicate, eqb}
use Prim.Native.String.{String}
use Rattle.document.specs.Hex.{hex}
use Rattle.document.specs.Message.{Message, heard}
use Rattle.document.specs.Answer.{answer_on_wire}
use Rattle.document.specs.Gate.{fresh}
use Rattle.document.specs.Happenings.{Happening, Since, after_messages, after_all, from_reset}
use Rattle.document.specs.Happenings.Happening.{byte, aside}
use Rattle.document.specs.Asides.{Aside}
use Rattle.document.specs.Asides.Aside.{tick, writes, collects, reports, prepares, starts}

-- a whole memory
abbrev pub zeros : List ℕ
zeros = replicate 16384 0

pub record Step : Type 0 where
  pub bytes : List ℕ
  -- what happens behind them
  pub asides : List Aside
  -- as they go over the wire
  pub answers : List (List ℕ)

abbrev pub Row : Type 0
Row = List Step

-- ---- the wire bytes of a message from its command, length and data, and of an answer from its status and data. Nothing
-- here is taken from the definitions that the rows are about.

abbrev added : List ℕ → ℕ
added [] = 0
added (b ∷ bs) = b + added bs

abbrev doubled : List ℕ → List ℕ
doubled [] = []
doubled (b ∷ bs) = cond (eqb b 0x2B) (b ∷ b ∷ doubled bs) (b ∷ doubled bs)

-- with a sum byte that is right where the fault is 0
abbrev pub framed : ℕ → List ℕ → List ℕ
framed fault [] = []
framed fault (b ∷ bs) = 0x2B ∷ b ∷ doubled (bs ++ ((256 - added (b ∷ bs) % 256 + fault) % 256 ∷ []))

abbrev pub wire : List ℕ → List ℕ
wire bs = framed 0 bs

-- ---- the steps

-- bytes and the answers to them, both as they stand on the wire
abbrev pub hears : List ℕ → List (List ℕ) → Step
hears bytes answers = record { bytes = bytes; asides = []; answers = answers }

-- a message with a right sum, and its answer
abbrev pub sends : List ℕ → List ℕ → Step
sends message answer = hears (wire message) (wire answer ∷ [])

abbrev pub asks : String → String → Step
asks message answer = sends (hex message) (hex answer)

abbrev beside : List Aside → Step
beside asides = record { bytes = []; asides = asides; answers = [] }

abbrev pub ticks : ℕ → Step
ticks n = beside (replicate n tick)

-- the gate's own program writes
abbrev pub puts : ℕ → String → Step
puts address bytes = beside (writes address (hex bytes) ∷ [])

-- the gate's own program collects a command, and reports a result (2026-01)
abbrev pub collecting : Step
collecting = beside (collects ∷ [])

abbrev pub reporting : ℕ → Step
reporting result = beside (reports result ∷ [])

-- the panel prepares, and starts (2026-06)
abbrev pub preparing : List ℕ → Step
preparing setup = beside (prepares setup ∷ [])

abbrev pub starting : Step
starting = beside (starts ∷ [])

-- byte 16 takes these values, one at each tick
abbrev each_tick : List ℕ → List Aside
each_tick [] = []
each_tick (b ∷ bs) = writes 16 (b ∷ []) ∷ tick ∷ each_tick bs

abbrev pub passes : String → Step
passes values = beside (each_tick (hex values))

-- ---- what a row says

abbrev pub said_by : Row → List (List ℕ)
said_by [] = []
said_by (s ∷ ss) = s.answers ++ said_by ss

-- ---- what the definitions make of it, byte by byte

abbrev happenings_of : Row → List Happening
happenings_of [] = []
happenings_of (s ∷ ss) = map byte s.bytes ++ map aside s.asides ++ happenings_of ss

abbrev pub byte_by_byte : Row → List (List ℕ)
byte_by_byte row = map answer_on_wire (after_all (from_reset (fresh zeros)) (happenings_of row)).answers

-- ---- and step by step: the messages of a step heard by themselves, which is quicker to compute

abbrev told_each : Since → List Message → Since
told_each s [] = s
told_each s (m ∷ ms) = told_each (after_messages s (m ∷ [])) ms

abbrev pub after_steps : Since → Row → Since
after_steps s [] = s
after_steps s (t ∷ ts) = after_steps (after_all (told_each s (heard t.bytes)) (map aside t.asides)) ts

abbrev pub step_by_step_over : List ℕ → Row → List (List ℕ)
step_by_step_over memory row = map answer_on_wire (after_steps (from_reset (fresh memory)) row).answers

abbrev pub step_by_step : Row → List (List ℕ)
step_by_step row = step_by_step_over zeros row
