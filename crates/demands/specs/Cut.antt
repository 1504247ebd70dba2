-- A run, cut where something happens in it: to there, that, and on. A byte that came in a block is cut out of it.
use Rattle.std.specs.Prelude.{List}
use Rattle.document.specs.Happenings.{Happening}
use Rattle.demands.specs.Board.{Board}
use Rattle.demands.specs.Run.{Step, Run}

pub record Cut (h : Board) (earlier : List Happening) (e : Happening) (later : List Happening) (last : Board) : Type 0 where
  pub before : Board
  pub next : Board
  pub to_there : Run h earlier before
  pub step : Step before e next
  pub on : Run next later last
