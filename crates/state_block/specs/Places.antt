-- Where the parts of a target's state lie in its block: each begins where the one before it ends, and a new part is appended.
use Rattle.std.specs.Prelude.{true, ℕ, ◌+◌, ◌*◌}
use Rattle.document.specs.Numbers.{most_data}
use Rattle.document.specs.Variables.{definition_width}
use Rattle.tables_state.specs.State.{list_length}

-- ---- how long a part is

-- the receiver's six bytes
abbrev pub receiver_length : ℕ
receiver_length = 6

-- a count, then eight definitions as an EX setup's data part has them
abbrev pub definitions_length : ℕ
definitions_length = 8 * definition_width true

abbrev pub variables_length : ℕ
variables_length = 1 + definitions_length

-- the plan's numbers, in front of its variables
abbrev pub numbers_length : ℕ
numbers_length = 17

abbrev pub plan_length : ℕ
plan_length = numbers_length + variables_length

abbrev pub run_length : ℕ
run_length = 11

-- whether it is ready, its plan and its run
abbrev pub recorder_length : ℕ
recorder_length = 1 + plan_length + run_length

-- the application command: phase, count and result, and 64 bytes
abbrev pub application_length : ℕ
application_length = 3 + most_data

-- the registered tables: a count, and their list
abbrev pub tables_length : ℕ
tables_length = 1 + list_length

-- scope, recorder, application command and tables
abbrev pub instruments_length : ℕ
instruments_length = variables_length + (recorder_length + (application_length + tables_length))

-- ---- where it begins

abbrev pub body_place : ℕ
body_place = receiver_length

abbrev pub scope_place : ℕ
scope_place = body_place + most_data

abbrev pub recorder_place : ℕ
recorder_place = scope_place + variables_length

abbrev pub plan_place : ℕ
plan_place = recorder_place + 1

abbrev pub recorded_place : ℕ
recorded_place = plan_place + numbers_length

abbrev pub run_place : ℕ
run_place = recorded_place + variables_length

abbrev pub application_place : ℕ
application_place = run_place + run_length

abbrev pub command_place : ℕ
command_place = application_place + 3

abbrev pub tables_place : ℕ
tables_place = application_place + application_length

abbrev pub list_place : ℕ
list_place = tables_place + 1

-- how many bytes a target's state takes
abbrev pub state_length : ℕ
state_length = tables_place + tables_length

-- ---- the plan's numbers and the run's, as they lie behind each other

abbrev pub samples_place : ℕ
samples_place = plan_place + 1

abbrev pub post_trigger_place : ℕ
post_trigger_place = samples_place + 2

abbrev pub divider_place : ℕ
divider_place = post_trigger_place + 2

abbrev pub trigger_address_place : ℕ
trigger_address_place = divider_place + 2

abbrev pub trigger_size_place : ℕ
trigger_size_place = trigger_address_place + 4

abbrev pub sign_place : ℕ
sign_place = trigger_size_place + 1

abbrev pub threshold_place : ℕ
threshold_place = sign_place + 1

abbrev pub full_place : ℕ
full_place = run_place + 1

abbrev pub watch_place : ℕ
watch_place = full_place + 1

abbrev pub wait_place : ℕ
wait_place = watch_place + 1

abbrev pub place_place : ℕ
place_place = wait_place + 2

abbrev pub value_place : ℕ
value_place = place_place + 2
