-- What happens beside the line touches what its row says (`laws_happenings.Asides.row`), and nothing else.
use Rattle.std.specs.Prelude.{◌≡◌, false, ◌++◌, drop}
use Rattle.document.specs.Areas.{variables_end}
use Rattle.document.specs.Asides.{Aside}
use Rattle.laws_happenings.specs.Asides.{if_any, handed_by, row, is_tick, is_own}
use Rattle.laws_happenings.specs.Asides.CommandStep.{kept}
use Rattle.laws_happenings.specs.Asides.RecorderStep.{stays}
use Rattle.state_block.specs.Layout.{decoded}
use Rattle.demands.specs.Board.{Board, gate_in}
use Rattle.demands.specs.AsDefined.{link_in}

pub record Touches (a : Aside) (h next : Board) : Type 0 where
  -- the link, in the midst of a message or not, the scope, the tables and the answers stay
  pub link_part : link_in (decoded next.block) ≡ link_in (decoded h.block)
  pub scope : (decoded next.block).instruments.scope ≡ (decoded h.block).instruments.scope
  pub tables : (decoded next.block).instruments.tables ≡ (decoded h.block).instruments.tables
  pub answers : next.answers ≡ h.answers
  -- and what its row leaves alone
  pub recorder : (row a).recorder ≡ stays → (decoded next.block).instruments.recorder ≡ (decoded h.block).instruments.recorder
  pub application : (row a).command ≡ kept → (decoded next.block).instruments.application ≡ (decoded h.block).instruments.application
  pub memory : (row a).stores ≡ false → next.memory ≡ h.memory
  -- behind the variables only a tick and the gate's own program write
  pub rest : is_own a ≡ false → is_tick a ≡ false → drop variables_end next.memory ≡ drop variables_end h.memory
  -- what is handed out, and answered at the second port
  pub commands : next.commands ≡ h.commands ++ handed_by (row a).command (gate_in h).application
  pub modbus_answers : next.modbus_answers ≡ h.modbus_answers ++ if_any ((row a).answer h.memory)
