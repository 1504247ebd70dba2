-- The second port: what a call leaves of its buffer, and of the board.
use mathlib.Core.Path.{ap, ◌∙◌}
use mathlib.Core.List.{List}
use Prim.Native.Nat.{ℕ}
use lib.ListN.{drop}
use Rattle.document.specs.Areas.{variables_end}
use Rattle.document.specs.Asides.Aside.{frames}
use Rattle.document.specs.Happenings.Happening.{aside}
use Rattle.document.proofs.Cases.{neither}
use Rattle.laws_modbus.proofs.Kept.{frame_keeps_rest}
use Rattle.laws_calls.specs.Calls.{Call}
use Rattle.demands.specs.Board.{Board}
use Rattle.demands.specs.Run.{Step}
use Rattle.demands.specs.Ports.{OnlyVariables}
use Rattle.demands.proofs.Calls.{Kept, next_is}

-- a frame touches nothing else
pub frame_only : (station : ℕ) (bytes : List ℕ) (h next : Board) → Kept h → Step h (aside (frames station bytes)) next → OnlyVariables station bytes h next
frame_only station bytes h next k step =
    let is = next_is (Call.frame station bytes) h next step k (λ on. neither on) in
    record {
      block = ap (λ (q : Board). q.block) is;
      memory = ap (λ (q : Board). q.memory) is;
      beyond = ap (λ (q : Board). drop variables_end q.memory) is ∙ frame_keeps_rest station bytes h.memory;
    }
