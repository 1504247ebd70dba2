-- What a run says of the recorder beside its history: where it begins, what a tick touches, and when it stops.
use Rattle.std.specs.Prelude.{◌≡◌, Bool, true, List, ℕ, ◌+◌, take, drop}
use Rattle.document.specs.Variables.{set_size}
use Rattle.document.specs.Plan.{Plan}
use Rattle.document.specs.Run.{Run, started, place_begins}
use Rattle.document.specs.Recorder.Recorder.{planned}
use Rattle.recorder_history.specs.History.{Event, begun, takes_next, beyond_in, NoneBeyond, TriggersNext}
use Rattle.demands.specs.Board.{Board, gate_in}

-- an accepted start leaves a recorder with its plan, at its start
pub record Begun (h : Board) : Type 0 where
  pub plan : Plan
  pub recorder : (gate_in h).recorder ≡ planned plan started

-- a recorder with this plan, which goes on or not
pub record RunsOn (p : Plan) (h : Board) (on : Bool) : Type 0 where
  pub run : Run
  pub recorder : (gate_in h).recorder ≡ planned p run
  pub is : run.running ≡ on

-- the trigger comes at the next tick exactly where it takes the first set, since a start over this memory, that is at or beyond
-- the threshold
pub record FiresAtFirst (p : Plan) (memory : List ℕ) (es : List Event) (h : Board) : Type 0 where
  pub run : Run
  pub recorder : (gate_in h).recorder ≡ planned p run
  pub only-there :
      TriggersNext p (record { run = run; memory = h.memory })
      → (beyond_in p h.memory ≡ true) × NoneBeyond p (begun memory) es
  pub there :
      takes_next (record { run = run; memory = h.memory }) ≡ true
      → beyond_in p h.memory ≡ true
      → NoneBeyond p (begun memory) es
      → TriggersNext p (record { run = run; memory = h.memory })

-- "A tick changes only that place.": the memory before and behind it stays, and so do scope, application, tables and answers
pub record OnlyItsPlace (p : Plan) (r : Run) (h next : Board) : Type 0 where
  pub before : take (place_begins p r.place) next.memory ≡ take (place_begins p r.place) h.memory
  pub behind :
      drop (place_begins p r.place + set_size p.variables) next.memory
      ≡ drop (place_begins p r.place + set_size p.variables) h.memory
  pub scope : (gate_in next).scope ≡ (gate_in h).scope
  pub application : (gate_in next).application ≡ (gate_in h).application
  pub tables : (gate_in next).tables ≡ (gate_in h).tables
  pub answers : next.answers ≡ h.answers
