-- What the recorder's calls promise: each its status, and the whole state that it leaves.
use Rattle.std.specs.Prelude.{◌≡◌, ⊤, cond, ℕ, eqb}
use Rattle.std.specs.declared.result.Result.{Result}
use Rattle.std.specs.declared.result.Result.TheVariants.{Ok, Err}
use Rattle.document.specs.Numbers.{done, recorder_runs, recorder_stopped, busy, not_set_up}
use Rattle.document.specs.Run.{started, start_index}
use Rattle.document.specs.Recorder.{Recorder, recorder_absent, is_running}
use Rattle.document.specs.Recorder.Recorder.{absent, planned}
use Rattle.codes_table.specs.declared.statuses.Status.{Status}
use Rattle.codes_table.specs.Statuses.{status_number, outcome_number}
use Rattle.recorder_runs.specs.State.{halted_run}
use Rattle.recorder_state.specs.declared.state.Recorder.{Recorder as RecorderState}
use Rattle.recorder_state.specs.State.{recorder_of, with_run}

-- "start, stop, status or buffer query with no accepted recorder setup since reset", before all else
abbrev pub or_not_set_up : Recorder → ℕ → ℕ
or_not_set_up r status = cond (recorder_absent r) not_set_up status

-- ---- start

-- "0xC1: running answers 0x01, else starts, 0x00."
abbrev pub start_status : Recorder → ℕ
start_status r = or_not_set_up r (cond (is_running r) recorder_runs done)

abbrev pub started_state : RecorderState → RecorderState
started_state r = cond (eqb (start_status (recorder_of r)) done) (with_run r started) r

pub record StartSettled (old : RecorderState) (outcome : Result ⊤ Status) (new : RecorderState) : Type 0 where
  pub status : outcome_number outcome ≡ start_status (recorder_of old)
  pub next : new ≡ started_state old

-- ---- stop

-- "0xC2: stopped answers 0x02, else stops, 0x00."
abbrev pub stop_status : Recorder → ℕ
stop_status r = or_not_set_up r (cond (is_running r) done recorder_stopped)

abbrev pub halted_state : RecorderState → RecorderState
halted_state r =
    cond (eqb (stop_status (recorder_of r)) done) (record { ready = r.ready; plan = r.plan; run = halted_run r.run }) r

pub record StopSettled (old : RecorderState) (outcome : Result ⊤ Status) (new : RecorderState) : Type 0 where
  pub status : outcome_number outcome ≡ stop_status (recorder_of old)
  pub next : new ≡ halted_state old

-- ---- status and buffer query

-- "0xC3: 0x01 or 0x02."
abbrev pub status_status : Recorder → ℕ
status_status r = or_not_set_up r (cond (is_running r) recorder_runs recorder_stopped)

-- "recorder setup or buffer query while the recorder runs"
abbrev pub query_status : Recorder → ℕ
query_status r = or_not_set_up r (cond (is_running r) busy done)

-- the start index where there is one
abbrev pub index_of : Recorder → ℕ
index_of absent = 0
index_of (planned p r) = start_index r

-- the status of an answered query, and its index, 0 where there is none
abbrev pub asked_number : Result ℕ Status → ℕ
asked_number (Ok _) = done
asked_number (Err status) = status_number status

abbrev pub asked_index : Result ℕ Status → ℕ
asked_index (Ok index) = index
asked_index (Err _) = 0

-- "buffer address 12,288 and start index": the index, 0 where the query is refused
pub record QuerySettled (self : RecorderState) (answer : Result ℕ Status) : Type 0 where
  pub status : asked_number answer ≡ query_status (recorder_of self)
  pub index : asked_index answer ≡ cond (eqb (query_status (recorder_of self)) done) (index_of (recorder_of self)) 0
