-- "one part changes, all others stay": of every part and every change. A reset sets nothing up and keeps what it is given; an answer alone
-- changes nothing.
use mathlib.Core.Path.{◌≡◌, refl}
use mathlib.Core.List.{List, []}
use Prim.Native.Nat.{ℕ}
use Rattle.document.specs.Scope.{Scope}
use Rattle.document.specs.Scope.Scope.{absent as no_scope}
use Rattle.document.specs.Application.{Application}
use Rattle.document.specs.Application.Application.{none}
use Rattle.document.specs.Tables.{Table}
use Rattle.document.specs.Recorder.{Recorder}
use Rattle.document.specs.Recorder.Recorder.{absent as no_recorder}
use Rattle.document.specs.Gate.{Gate, with_memory, with_scope, with_recorder, with_application, registered, fresh, says}

module _ (g : Gate) where
  module _ (memory : List ℕ) where
    pub memory_changes : (with_memory g memory).memory ≡ memory
    memory_changes = refl

    pub memory_keeps_scope : (with_memory g memory).scope ≡ g.scope
    memory_keeps_scope = refl

    pub memory_keeps_recorder : (with_memory g memory).recorder ≡ g.recorder
    memory_keeps_recorder = refl

    pub memory_keeps_application : (with_memory g memory).application ≡ g.application
    memory_keeps_application = refl

    pub memory_keeps_tables : (with_memory g memory).tables ≡ g.tables
    memory_keeps_tables = refl

  module _ (scope : Scope) where
    pub scope_changes : (with_scope g scope).scope ≡ scope
    scope_changes = refl

    pub scope_keeps_memory : (with_scope g scope).memory ≡ g.memory
    scope_keeps_memory = refl

    pub scope_keeps_recorder : (with_scope g scope).recorder ≡ g.recorder
    scope_keeps_recorder = refl

    pub scope_keeps_application : (with_scope g scope).application ≡ g.application
    scope_keeps_application = refl

    pub scope_keeps_tables : (with_scope g scope).tables ≡ g.tables
    scope_keeps_tables = refl

  module _ (recorder : Recorder) where
    pub recorder_changes : (with_recorder g recorder).recorder ≡ recorder
    recorder_changes = refl

    pub recorder_keeps_memory : (with_recorder g recorder).memory ≡ g.memory
    recorder_keeps_memory = refl

    pub recorder_keeps_scope : (with_recorder g recorder).scope ≡ g.scope
    recorder_keeps_scope = refl

    pub recorder_keeps_application : (with_recorder g recorder).application ≡ g.application
    recorder_keeps_application = refl

    pub recorder_keeps_tables : (with_recorder g recorder).tables ≡ g.tables
    recorder_keeps_tables = refl

  module _ (application : Application) where
    pub application_changes : (with_application g application).application ≡ application
    application_changes = refl

    pub application_keeps_memory : (with_application g application).memory ≡ g.memory
    application_keeps_memory = refl

    pub application_keeps_scope : (with_application g application).scope ≡ g.scope
    application_keeps_scope = refl

    pub application_keeps_recorder : (with_application g application).recorder ≡ g.recorder
    application_keeps_recorder = refl

    pub application_keeps_tables : (with_application g application).tables ≡ g.tables
    application_keeps_tables = refl

  pub says_changes_nothing : (status : ℕ) (body : List ℕ) → (says g status body).gate ≡ g
  says_changes_nothing status body = refl

-- "The gate registers up to 16 tables at reset": the memory as it was lent, the tables as they were given, and nothing set up
module _ (tables : List Table) (memory : List ℕ) where
  pub reset_keeps : ((registered tables memory).memory ≡ memory) × ((registered tables memory).tables ≡ tables)
  reset_keeps = (refl, refl)

  pub reset_forgets : ((registered tables memory).scope ≡ no_scope) × ((registered tables memory).recorder ≡ no_recorder) × ((registered tables memory).application ≡ none)
  reset_forgets = (refl, refl, refl)

  pub plain_reset : fresh memory ≡ registered [] memory
  plain_reset = refl
