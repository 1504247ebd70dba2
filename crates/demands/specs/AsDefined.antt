-- Demand 2: a board that stands for what the definition has.
use Rattle.std.specs.Prelude.{◌≡◌, List, ℕ, replicate}
use Rattle.document.specs.Numbers.{most_data}
use Rattle.document.specs.Happenings.{Since}
use Rattle.document.specs.Blocks.{answers_on_wire}
use Rattle.line_receiver.specs.Report.{Beside, since_reset}
use Rattle.state_parts.specs.State.{Target}
use Rattle.state_block.specs.Layout.{decoded}
use Rattle.demands.specs.Board.{Board, gate_in}

-- the body of a link at reset
abbrev pub blank : List ℕ
blank = replicate most_data 0

abbrev pub link_in : Target → Beside
link_in t = record { receiver = t.receiver; body = t.body }

pub record AsDefined (h : Board) (s : Since) : Type 0 where
  -- memory, scope, recorder and application
  pub gate : gate_in h ≡ s.gate
  -- the answers, as they go over the wire
  pub answers : h.answers ≡ answers_on_wire s.answers
  -- the receiver and its body, as the bytes since reset leave them
  pub link_part : link_in (decoded h.block) ≡ since_reset blank s.bytes
