-- The bounds of the target's state, and the state at reset.
use Rattle.std.specs.Prelude.{Bool, ◌&&◌, replicate}
use Rattle.document.specs.Numbers.{most_data}
use Rattle.line_receiver.specs.Bounds as link
use Rattle.scope_state.specs.State as scope
use Rattle.recorder_state.specs.State as recorder
use Rattle.recorder_state.specs.Bounds as recorder-bounds
use Rattle.application_state.specs.State as application
use Rattle.tables_state.specs.State as tables
use Rattle.tables_state.specs.State.{Registered, no_tables}
use Rattle.state_parts.specs.State.{Target}

-- "1 a state outside the bounds listed in docs/" is about the whole state, at every call
unfoldable pub sound : Target → Bool
sound t = link.sound t.receiver && (scope.sound t.instruments.scope && (recorder-bounds.sound t.instruments.recorder && (application.sound t.instruments.application && tables.sound t.instruments.tables)))

-- reset with these tables: an idle link, and nothing set up
abbrev pub fresh_with : Registered → Target
fresh_with registered =
    record {
      receiver = link.fresh;
      body = replicate most_data 0;
      instruments =
          record { scope = scope.no_scope; recorder = recorder.no_recorder; application = application.no_command; tables = registered };
    }

-- and with none
abbrev pub fresh : Target
fresh = fresh_with no_tables
