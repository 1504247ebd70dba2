-- What of a state is looked at: the definitions behind a count are not, nor a plan and a run that nobody set up.
use Rattle.std.specs.Prelude.{cond, eqb, List, [], ◌∷◌, ◌++◌, ℕ, ◌*◌, replicate, take, drop}
use Rattle.document.specs.Numbers.{most_data}
use Rattle.document.specs.Application.{Application}
use Rattle.document.specs.Application.Application.{none, waiting, collected, ended}
use Rattle.document.specs.Scope.{Scope as DocumentScope}
use Rattle.document.specs.Scope.Scope.{absent, watching}
use Rattle.document.specs.Recorder.{Recorder as DocumentRecorder}
use Rattle.document.specs.Recorder.Recorder.{absent as no-setup, planned}
use Rattle.document.specs.Gate.{Gate}
use Rattle.variables_list.specs.State.{variables_of, kept}
use Rattle.scope_state.specs.declared.Scope.{Scope}
use Rattle.scope_state.specs.State.{no_scope}
use Rattle.recorder_plans.specs.State.{plan_of, plan_kept}
use Rattle.recorder_runs.specs.State.{run_kept}
use Rattle.recorder_state.specs.declared.state.Recorder.{Recorder}
use Rattle.recorder_state.specs.State.{no_recorder}
use Rattle.application_state.specs.State.{is_waiting, is_collected, is_ended, Command, no_command, sent_command, ended_command}
use Rattle.document.specs.Values.{little_endian}
use Rattle.document.specs.Tables.{Table, pair_size}
use Rattle.tables_state.specs.State.{Registered, list_length, registered_list}
use Rattle.state_parts.specs.State.{Instruments}

-- the same with zeros where nothing is looked at
abbrev pub looked_scope : Scope → Scope
looked_scope s = record { variables = kept (variables_of s.variables) }

abbrev pub looked_recorder : Recorder → Recorder
looked_recorder r =
    cond (eqb r.ready 0) no_recorder
    (record {
      ready = r.ready;
      plan = plan_kept (plan_of r.plan) (kept (variables_of r.plan.variables));
      run = r.run;
    })

-- of a command its count and bytes while it waits, its result when it is in
abbrev pub looked_command : Command → Command
looked_command c =
    cond (eqb c.phase is_waiting)
    (record { phase = c.phase; count = c.count; result = 0; bytes = take c.count c.bytes ++ drop c.count (replicate most_data 0) })
    (record { phase = c.phase; count = 0; result = cond (eqb c.phase is_ended) c.result 0; bytes = replicate most_data 0 })

-- of the list, what the count says
abbrev pub looked_tables : Registered → Registered
looked_tables r = record { count = r.count; list = take (r.count * pair_size) r.list ++ drop (r.count * pair_size) (replicate list_length 0) }

abbrev pub looked : Instruments → Instruments
looked i = record { scope = looked_scope i.scope; recorder = looked_recorder i.recorder; application = looked_command i.application; tables = looked_tables i.tables }

-- ---- back from what a state stands for

abbrev pub scope_kept : DocumentScope → Scope
scope_kept absent = no_scope
scope_kept (watching vs) = record { variables = kept vs }

abbrev pub recorder_kept : DocumentRecorder → Recorder
recorder_kept no-setup = no_recorder
recorder_kept (planned p r) = record { ready = 1; plan = plan_kept p (kept p.variables); run = run_kept r }

abbrev pub command_kept : Application → Command
command_kept none = no_command
command_kept (waiting command) = sent_command command no_command
command_kept collected = record { phase = is_collected; count = 0; result = 0; bytes = replicate most_data 0 }
command_kept (ended result) = ended_command result no_command

abbrev pub list_of : List Table → List ℕ
list_of [] = []
list_of (t ∷ ts) = little_endian 2 t.address ++ (little_endian 2 t.size ++ list_of ts)

abbrev pub tables_kept : List Table → Registered
tables_kept ts = registered_list (list_of ts)

abbrev pub instruments_kept : Gate → Instruments
instruments_kept g = record { scope = scope_kept g.scope; recorder = recorder_kept g.recorder; application = command_kept g.application; tables = tables_kept g.tables }
