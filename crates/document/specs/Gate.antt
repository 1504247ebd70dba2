-- What demand 3 compares: the memory, the scope, the recorder, the application command and the tables, and what a message makes of
-- them.
use Rattle.std.specs.Prelude.{List, [], ℕ}
use Rattle.document.specs.Answer.{Answer}
use Rattle.document.specs.Scope.{Scope}
use Rattle.document.specs.Scope.Scope.{absent as no_scope}
use Rattle.document.specs.Application.{Application}
use Rattle.document.specs.Application.Application.{none}
use Rattle.document.specs.Tables.{Table}
use Rattle.document.specs.Recorder.{Recorder}
use Rattle.document.specs.Recorder.Recorder.{absent as no_recorder}

pub record Gate : Type 0 where
  pub memory : List ℕ
  pub scope : Scope
  pub recorder : Recorder
  -- "what demand 3 compares beside memory now includes this state" (2026-01)
  pub application : Application
  -- "demand 3's fresh link has the same tables" (2026-03)
  pub tables : List Table

-- one part changes, all others stay
abbrev pub with_memory : Gate → List ℕ → Gate
with_memory g memory = record { memory = memory; scope = g.scope; recorder = g.recorder; application = g.application; tables = g.tables }

abbrev pub with_scope : Gate → Scope → Gate
with_scope g scope = record { memory = g.memory; scope = scope; recorder = g.recorder; application = g.application; tables = g.tables }

abbrev pub with_recorder : Gate → Recorder → Gate
with_recorder g recorder = record { memory = g.memory; scope = g.scope; recorder = recorder; application = g.application; tables = g.tables }

abbrev pub with_application : Gate → Application → Gate
with_application g application = record { memory = g.memory; scope = g.scope; recorder = g.recorder; application = application; tables = g.tables }

-- reset: nothing is set up; the memory is as it was lent. "The gate registers up to 16 tables at reset" (2026-03)
abbrev pub registered : List Table → List ℕ → Gate
registered tables memory = record { memory = memory; scope = no_scope; recorder = no_recorder; application = none; tables = tables }

-- a reset with no tables
abbrev pub fresh : List ℕ → Gate
fresh memory = registered [] memory

-- what a message leaves, and the answer to it
pub record Outcome : Type 0 where
  pub gate : Gate
  pub answer : Answer

-- an answer alone: "The memory, scope and recorder keep their values"
abbrev pub says : Gate → ℕ → List ℕ → Outcome
says g status body = record { gate = g; answer = record { status = status; body = body } }
