-- Both ports of a board (2026-07): what a frame leaves, and what is compared of two runs.
use Rattle.std.specs.Prelude.{◌≡◌, List, ℕ, ◌≤◌, length, drop}
use Rattle.document.specs.Areas.{variables_end}
use Rattle.document.specs.Tables.{Table}
use Rattle.document.specs.Modbus.{modbus_memory}
use Rattle.document.specs.Happenings.{Happening}
use Rattle.laws_happenings.specs.Bytes.{AreBytes}
use Rattle.laws_happenings.specs.Ports.{SameBeyond}
use Rattle.state_parts.specs.Within.{MemoryWithin}
use Rattle.state_block.specs.Places.{state_length}
use Rattle.state_block.specs.Layout.{decoded}
use Rattle.demands.specs.Board.{Board, gate_in, begun}
use Rattle.demands.specs.Run.{Reset, Run}
use Rattle.demands.specs.AsDefined.{link_in}

-- "Both ports share the memory and nothing else": a frame leaves what the definition gives over the memory as it stood, which is bytes
-- 0 to 8,191 at most; `Touches` says what else stays
pub record OnlyVariables (station : ℕ) (frame : List ℕ) (h next : Board) : Type 0 where
  pub block : next.block ≡ h.block
  pub memory : next.memory ≡ modbus_memory station frame h.memory
  pub beyond : drop variables_end next.memory ≡ drop variables_end h.memory

-- a run since a reset or a registering with these tables, over this memory: what happened, and the board then
pub record SinceReset (tables : List Table) (memory : List ℕ) (hs : List Happening) (h : Board) : Type 0 where
  pub block : List ℕ
  pub after : List ℕ
  pub long : state_length ≤ length block
  pub lent : MemoryWithin memory
  pub reset : Reset block memory tables after
  pub are : AreBytes hs
  pub run : Run (begun after memory) hs h

-- the service port said the same, the same commands were handed out, and all is the same but bytes 0 to 8,191
pub record SameService (h k : Board) : Type 0 where
  pub answers : h.answers ≡ k.answers
  pub commands : h.commands ≡ k.commands
  pub link_part : link_in (decoded h.block) ≡ link_in (decoded k.block)
  pub gate : SameBeyond (gate_in h) (gate_in k)
