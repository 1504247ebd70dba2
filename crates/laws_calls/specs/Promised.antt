-- What is known of a call that was made: the promise that its function is held to, over what it was lent. What it is not lent stays.
use Rattle.std.specs.Prelude.{List, [], ◌∷◌, ℕ}
use Rattle.line_wire.specs.declared.Written.{Written}
use Rattle.call_application.specs.declared.Collected.{Collected}
use Rattle.call_checks.specs.Promises.{ResetDone}
use Rattle.call_tick.specs.Promises.{TickTaken}
use Rattle.call_application.specs.Promises.{CollectDone, ReportDone}
use Rattle.call_register.specs.Promises.{RegisterDone}
use Rattle.call_panel.specs.declared.Said.{Said}
use Rattle.call_panel.specs.Promises.{PrepareDone, StartDone}
use Rattle.call_byte.specs.declared.Taken.{Taken}
use Rattle.call_byte.specs.Promises.{ByteTaken}
use Rattle.call_block.specs.declared.BlockTaken.{BlockTaken}
use Rattle.call_block.specs.Promises.{BlockDone}
use Rattle.call_modbus.specs.Promises.{ModbusDone}
use Rattle.laws_calls.specs.Calls.{Call, Lent, Outcome}
use Rattle.laws_calls.specs.Calls.Call.{byte, receive, tick, collect, report, prepare, start, frame, register, reset}

-- its number, what it says beside it, and block, memory and buffer at its exit
abbrev pub came : ℕ → List ℕ → List ℕ → List ℕ → List ℕ → Outcome
came number said block memory buffer =
    record { number = number; left = record { said = said; block = block; memory = memory; buffer = buffer } }

pub data Promised (l : Lent) : Call → Outcome → Type 0 where
  by_byte : (b : ℕ) (r : Taken) (after left told : List ℕ) → ByteTaken l.block b l.memory l.buffer r after left told
      → Promised l (byte b) (came r.refusal (r.length ∷ []) after left told)
  by_block : (bytes : List ℕ) (r : BlockTaken) (after left told : List ℕ) → BlockDone l.block bytes l.memory l.buffer r after left told
      → Promised l (receive bytes) (came r.refusal (r.taken ∷ r.written ∷ []) after left told)
  by_tick : (r : ℕ) (after left : List ℕ) → TickTaken l.block l.memory r after left → Promised l tick (came r [] after left l.buffer)
  by_collect : (r : Collected) (after told : List ℕ) → CollectDone l.block l.buffer r after told
      → Promised l collect (came r.refusal (r.length ∷ []) after l.memory told)
  by_report : (result r : ℕ) (after : List ℕ) → ReportDone l.block result r after → Promised l (report result) (came r [] after l.memory l.buffer)
  by_prepare : (setup : List ℕ) (r : Said) (after : List ℕ) → PrepareDone l.block setup r after
      → Promised l (prepare setup) (came r.refusal (r.status ∷ []) after l.memory l.buffer)
  by_start : (r : Said) (after : List ℕ) → StartDone l.block r after → Promised l start (came r.refusal (r.status ∷ []) after l.memory l.buffer)
  by_modbus : (station : ℕ) (bytes : List ℕ) (r : Written) (left told : List ℕ) → ModbusDone station bytes l.memory l.buffer r left told
      → Promised l (frame station bytes) (came r.refusal (r.length ∷ []) l.block left told)
  by_register : (list : List ℕ) (r : ℕ) (after : List ℕ) → RegisterDone l.block l.memory list r after
      → Promised l (register list) (came r [] after l.memory l.buffer)
  by_reset : (r : ℕ) (after : List ℕ) → ResetDone l.block r after → Promised l reset (came r [] after l.memory l.buffer)
