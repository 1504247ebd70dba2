-- What holds of a state and the memory between two calls: every part within its bounds, and every number within its width.
use Rattle.std.specs.Prelude.{◌≡◌, true, List, ℕ, ◌<◌, length}
use Rattle.document.specs.Numbers.{most_data}
use Rattle.document.specs.Areas.{memory_end}
use Rattle.document.specs.Bytes.{AllBytes}
use Rattle.line_receiver.specs.Bounds as link
use Rattle.scope_state.specs.declared.Scope.{Scope}
use Rattle.scope_state.specs.State as scope
use Rattle.recorder_state.specs.declared.state.Recorder.{Recorder}
use Rattle.recorder_state.specs.Bounds as recorder
use Rattle.application_state.specs.State as application
use Rattle.application_state.specs.State.{Command}
use Rattle.tables_state.specs.State as tables
use Rattle.tables_state.specs.State.{Registered, list_length}
use Rattle.state_parts.specs.State.{Target}
use Rattle.state_parts.specs.Widths.{VariablesFit, RecorderFits}

pub record ScopeWithin (s : Scope) : Type 0 where
  pub sound : scope.sound s ≡ true
  pub fits : VariablesFit s.variables

pub record RecorderWithin (r : Recorder) : Type 0 where
  pub sound : recorder.sound r ≡ true
  pub fits : RecorderFits r

pub record CommandWithin (c : Command) : Type 0 where
  pub sound : application.sound c ≡ true
  pub size : length c.bytes ≡ most_data
  pub bytes : AllBytes c.bytes

pub record TablesWithin (r : Registered) : Type 0 where
  pub sound : tables.sound r ≡ true
  pub size : length r.list ≡ list_length
  pub bytes : AllBytes r.list

pub record MemoryWithin (m : List ℕ) : Type 0 where
  pub size : length m ≡ memory_end
  pub bytes : AllBytes m

pub record LinkWithin (t : Target) : Type 0 where
  pub receiver : link.sound t.receiver ≡ true
  pub command : t.receiver.command < 256
  pub size : length t.body ≡ most_data
  pub body : AllBytes t.body

pub record Within (t : Target) (memory : List ℕ) : Type 0 where
  pub link_part : LinkWithin t
  pub scope_part : ScopeWithin t.instruments.scope
  pub recorder_part : RecorderWithin t.instruments.recorder
  pub application_part : CommandWithin t.instruments.application
  pub tables_part : TablesWithin t.instruments.tables
  pub memory_part : MemoryWithin memory
