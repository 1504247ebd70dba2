-- The widths of a state's numbers, and the lengths of its lists: what a block of bytes has room for.
use Rattle.std.specs.Prelude.{◌≡◌, ℕ, ◌^◌, ◌<◌, length, get_or}
use Rattle.document.specs.Numbers.{most_data}
use Rattle.variables_list.specs.declared.Variables.{Variables}
use Rattle.recorder_plans.specs.declared.plan.Plan.{Plan}
use Rattle.recorder_runs.specs.declared.run.Run.{Run}
use Rattle.recorder_state.specs.declared.state.Recorder.{Recorder}
use Rattle.tables_state.specs.State.{list_length}
use Rattle.state_parts.specs.State.{Target}

pub record VariablesFit (v : Variables) : Type 0 where
  pub eight : length v.list ≡ 8
  pub addresses : (i : ℕ) → (get_or v.list i (record { address = 0; size = 0 })).address < 256 ^ 4

pub record PlanFits (p : Plan) : Type 0 where
  pub samples : p.samples < 256 ^ 2
  pub after : p.post_trigger < 256 ^ 2
  pub divider : p.divider < 256 ^ 2
  pub address : p.address < 256 ^ 4
  pub threshold : p.threshold < 256 ^ 4
  pub variables : VariablesFit p.variables

pub record RunFits (r : Run) : Type 0 where
  pub wait : r.wait < 256 ^ 2
  pub place : r.place < 256 ^ 2
  pub value : r.value < 256 ^ 4

pub record RecorderFits (r : Recorder) : Type 0 where
  pub plan : PlanFits r.plan
  pub run : RunFits r.run

pub record TargetFits (t : Target) : Type 0 where
  pub body : length t.body ≡ most_data
  pub scope : VariablesFit t.instruments.scope.variables
  pub recorder : RecorderFits t.instruments.recorder
  pub application : length t.instruments.application.bytes ≡ most_data
  pub tables : length t.instruments.tables.list ≡ list_length
