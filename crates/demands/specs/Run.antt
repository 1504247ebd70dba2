-- A run of the calls that are linked into a gate: whatever their promises allow, one call for each thing that happens or for a block
-- of bytes, and refused calls anywhere among them. Each call is lent as much of block and memory as it likes, and brings its own buffer,
-- of any room and with anything in it.
use Rattle.std.specs.Prelude.{◌≡◌, true, List, [], ◌∷◌, ◌++◌, map, ℕ, ◌≤◌, length, take}
use Rattle.document.specs.Numbers.{taken}
use Rattle.document.specs.Stores.{stored}
use Rattle.document.specs.Bytes.{AllBytes}
use Rattle.document.specs.Tables.{Table, tables_in}
use Rattle.document.specs.Asides.Aside.{tick, writes, collects, reports, prepares, starts, frames}
use Rattle.document.specs.Happenings.{Happening}
use Rattle.document.specs.Happenings.Happening.{byte, aside}
use Rattle.state_block.specs.Layout.{decoded}
use Rattle.call_checks.specs.Promises.{ResetDone}
use Rattle.call_register.specs.Promises.{RegisterDone}
use Rattle.laws_calls.specs.Calls.{Call, Lent, took_of, row, number_of, sends, Outcome}
use Rattle.laws_calls.specs.Promised.{Promised}
use Rattle.demands.specs.Board.{Board, with_memory, behind}
use Rattle.demands.specs.Pieces.{Piece, lends, handed_back}

-- ---- a call

-- pieces of what the gate has, of any length, and this buffer
abbrev pub partly : Board → Piece → Piece → List ℕ → Lent
partly h block memory buffer = record { block = lends h.block block; memory = lends h.memory memory; buffer = buffer }

-- what it was lent stands in its place again, as its promise has it
pub record Makes (c : Call) (h next : Board) : Type 0 where
  pub block : Piece
  pub memory : Piece
  pub buffer : List ℕ
  pub outcome : Outcome
  pub promised : Promised (partly h block memory buffer) c outcome
  pub board :
      next
      ≡ behind h (handed_back h.block block outcome.left.block) (handed_back h.memory memory outcome.left.memory)
      (sends c outcome.left)

-- it is taken
pub record Takes (c : Call) (h next : Board) : Type 0 where
  pub made : Makes c h next
  pub fine : made.outcome.number ≡ taken

-- or refused, with whatever number
pub record Refuses (h next : Board) : Type 0 where
  pub call : Call
  pub made : Makes call h next
  pub refused : made.outcome.number ≡ taken → ⊥

-- ---- what happens

-- by a call that is taken; or the gate's own program writes its memory
pub data Doing : Type 0 where
  calls : Call → Doing
  stores : ℕ → List ℕ → Doing

abbrev pub doing : Happening → Doing
doing (byte b) = calls (Call.byte b)
doing (aside tick) = calls Call.tick
doing (aside (writes address bytes)) = stores address bytes
doing (aside collects) = calls Call.collect
doing (aside (reports result)) = calls (Call.report result)
doing (aside (prepares setup)) = calls (Call.prepare setup)
doing (aside starts) = calls Call.start
doing (aside (frames station bytes)) = calls (Call.frame station bytes)

abbrev pub brought_by : Doing → List ℕ
brought_by (calls c) = (row c).brings
brought_by (stores address bytes) = bytes

abbrev pub Does : Board → Doing → Board → Type 0
Does h (calls c) next = Takes c h next
Does h (stores address bytes) next = next ≡ with_memory h (stored h.memory address bytes)

abbrev pub Step : Board → Happening → Board → Type 0
Step h e next = Does h (doing e) next

-- ---- a run

-- how it begins: a reset, or a registering that is taken, over the memory as it is then
pub data Reset (block memory : List ℕ) : List Table → List ℕ → Type 0 where
  by_reset : (r : ℕ) (after : List ℕ) → ResetDone block r after → Reset block memory [] after
  by_registering : (list after : List ℕ) → AllBytes list → RegisterDone block memory list taken after → Reset block memory (tables_in list) after

-- every byte comes by a call of its own
pub data Singly : Board → List Happening → Board → Type 0 where
  ends : (h : Board) → Singly h [] h
  happens : (h next last : Board) (e : Happening) (es : List Happening) → Step h e next → Singly next es last → Singly h (e ∷ es) last
  -- "consume no byte": nothing has happened
  refuses : (h next last : Board) (es : List Happening) → Refuses h next → Singly next es last → Singly h es last

-- the bytes of a block that were taken have come
abbrev pub came : ℕ → List ℕ → List Happening
came n bytes = map byte (take n bytes)

-- bytes come singly or in blocks
pub data Run : Board → List Happening → Board → Type 0 where
  ends : (h : Board) → Run h [] h
  happens : (h next last : Board) (e : Happening) (es : List Happening) → Step h e next → Run next es last → Run h (e ∷ es) last
  blocks : (h next last : Board) (bytes : List ℕ) (es : List Happening) → AllBytes bytes → (taking : Takes (Call.receive bytes) h next)
      → Run next es last → Run h (came (took_of taking.made.outcome.left) bytes ++ es) last
  refuses : (h next last : Board) (es : List Happening) → Refuses h next → Run next es last → Run h es last

-- ---- when a call is taken

-- all that the gate has, and this buffer
abbrev pub wholly : Board → List ℕ → Lent
wholly h buffer = record { block = h.block; memory = h.memory; buffer = buffer }

-- lent all that the gate has and that much room, no call is refused
abbrev pub Ready : Board → Type 0
Ready h = (c : Call) (buffer : List ℕ) → (row c).room ≤ length buffer → (row c).due (decoded h.block) h.memory ≡ true → number_of c (wholly h buffer) ≡ taken

-- what something that happens asks for, beside bytes and room: a report waits for its command, and a frame for its station
abbrev pub DueTo : Board → Doing → Type 0
DueTo h (calls c) = (row c).due (decoded h.block) h.memory ≡ true
DueTo h (stores address bytes) = Unit {0}

abbrev pub Due : Board → Happening → Type 0
Due h e = DueTo h (doing e)
