-- Every row that goes step by step holds of the definitions over the whole memory, by one computation.
use mathlib.Core.Path.{◌≡◌, refl}
use mathlib.Core.List.{List, ◌++◌, map}
use Prim.Native.Nat.{ℕ}
use Rattle.document.specs.Services.{service_of}
use Rattle.document.specs.Message.{heard, finished_by}
use Rattle.document.specs.Answer.{answer_on_wire}
use Rattle.document.specs.Plan.{plan_in}
use Rattle.document.specs.Trigger.{fires, is_beyond}
use Rattle.document.specs.Run.{ran_tick, memory_after_tick}
use Rattle.document.specs.Permission.{may_be_written}
use Rattle.document.specs.Refusals.{refusal}
use Rattle.document.specs.Commands.{answered}
use Rattle.document.specs.Panel.{panel_prepares, panel_starts}
use Rattle.document.specs.Asides.{beside}
use Rattle.document.specs.Strings.{before_zero, has_zero}
use Rattle.document.specs.CheckSum.{shifted, shifts, stepped, check_sum}
use Rattle.document.specs.Frames.{is_silenced}
use Rattle.document.specs.Modbus.{exception_to, modbus_memory}
use Rattle.document.specs.Rows.{zeros, said_by, byte_by_byte, step_by_step}
use Rattle.document.specs.LineRows.{line_rows, long_line_rows}
use Rattle.document.specs.ReadRows.{read_rows}
use Rattle.document.specs.WriteRows.{write_rows}
use Rattle.document.specs.ScopeRows.{scope_rows}
use Rattle.document.specs.SetupRows.{setup_rows}
use Rattle.document.specs.RecorderRows.{recorder_rows}
use Rattle.document.specs.TriggerRows.{trigger_rows}
use Rattle.document.specs.ApplicationRows.{application_rows}
use Rattle.document.specs.PanelRows.{panel_rows, midst_rows}
use Rattle.document.specs.TableRows.{table_rows, tables_by_step}
use Rattle.document.specs.StayRows.{stay_rows}
use Rattle.document.proofs.Rows.{holds_eq, rows}
use Rattle.document_worked.specs.WholeRows as whole
use Rattle.document_worked.specs.TableRows.{named, name_rows}

abbrev pub given : List (List (List ℕ))
unfolding line_rows long_line_rows midst_rows whole.scope_rows table_rows name_rows stay_rows
given =
    map byte_by_byte (line_rows ++ long_line_rows ++ midst_rows) ++ map step_by_step (rows ++ whole.scope_rows)
    ++ map (tables_by_step named) (table_rows ++ name_rows)
    ++ map (tables_by_step zeros) stay_rows

abbrev pub said : List (List (List ℕ))
unfolding line_rows long_line_rows midst_rows whole.scope_rows table_rows name_rows stay_rows
said =
    map said_by (line_rows ++ long_line_rows ++ midst_rows) ++ map said_by (rows ++ whole.scope_rows) ++ map said_by (table_rows ++ name_rows) ++ map said_by stay_rows

pub rows_hold : given ≡ said
unfolding line_rows long_line_rows read_rows write_rows scope_rows setup_rows recorder_rows trigger_rows application_rows panel_rows midst_rows table_rows name_rows stay_rows whole.scope_rows panel_prepares panel_starts answer_on_wire heard finished_by service_of may_be_written refusal answered plan_in fires is_beyond ran_tick memory_after_tick shifted shifts stepped check_sum is_silenced exception_to modbus_memory beside before_zero has_zero
rows_hold = holds_eq given said refl
