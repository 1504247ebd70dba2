-- The recorder's history, as a board shows it.
use Rattle.std.specs.Prelude.{◌≡◌, List, ℕ, min, ◌%◌, length}
use Rattle.document.specs.Plan.{Plan}
use Rattle.document.specs.Run.{Run, start_index}
use Rattle.document.specs.Recorder.Recorder.{planned}
use Rattle.document.specs.Sets.{read_round, last_of}
use Rattle.demands.specs.Board.{Board, gate_in}

-- "reading round from it as many places as sets were taken since the start, at most 'samples', gives the last sets of
-- that history, oldest first"
pub record Recorded (p : Plan) (h : Board) (sets : List (List ℕ)) : Type 0 where
  pub run : Run
  pub recorder : (gate_in h).recorder ≡ planned p run
  pub reading : read_round p h.memory (start_index run) (min (length sets) p.samples) ≡ last_of p.samples sets
  -- "Set k since the start goes to place k modulo 'samples'"
  pub place : run.place ≡ length sets % p.samples
