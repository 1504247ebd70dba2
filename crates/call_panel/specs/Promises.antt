-- What the panel's two calls promise: the result and every lent byte, refused or not. At exit the block holds the encoding of the
-- definition's next state, and bytes behind it keep their values.
use Rattle.std.specs.Prelude.{◌≡◌, false, cond, List, ℕ, eqb, ltb, length}
use Rattle.std.proofs.lemmas.List.Edits.{sets}
use Rattle.document.specs.Numbers.{most_data, done, not_served, message_too_long, taken}
use Rattle.document.specs.Recorder.{Recorder, is_running}
use Rattle.document.specs.Panel.{panel_prepares, panel_starts}
use Rattle.recorder_state.specs.declared.state.Recorder.{Recorder as RecorderState}
use Rattle.recorder_state.specs.State.{recorder_of}
use Rattle.recorder_state.specs.Calls.{started_state}
use Rattle.recorder_state.specs.Preparing.{prepare_status, prepared_state}
use Rattle.state_parts.specs.State.{with_instruments, Target, gate_of, with_recorder}
use Rattle.state_block.specs.Layout.{decoded_recorder, decoded, encoded}
use Rattle.state_block.specs.Changes.{block_with_recorder}
use Rattle.call_checks.specs.Promises.{panel_number}
use Rattle.call_panel.specs.declared.Said.{Said}

-- ---- what is left of the recorder

-- "above 64 bytes 0x83", before all that a setup is answered with
abbrev pub given_status : Recorder → List ℕ → ℕ
given_status r setup = cond (ltb most_data (length setup)) message_too_long (prepare_status (is_running r) false setup)

abbrev pub given_next : RecorderState → List ℕ → RecorderState
given_next r setup = cond (eqb (given_status (recorder_of r) setup) done) (prepared_state false setup) r

-- what a preparing that nothing refuses says, and the block behind it
pub record Prepared (block setup : List ℕ) (status : ℕ) (after : List ℕ) : Type 0 where
  pub said : status ≡ given_status (recorder_of (decoded_recorder block)) setup
  pub state : after ≡ block_with_recorder block (given_next (decoded_recorder block) setup)

-- the link, the scope, the application command and the tables know nothing of the panel
abbrev pub recorder_changed : Target → RecorderState → Target
recorder_changed t r = with_instruments t (with_recorder t.instruments r)

abbrev pub prepared_target : List ℕ → Target → Target
prepared_target setup t = recorder_changed t (given_next t.instruments.recorder setup)

abbrev pub started_target : Target → Target
started_target t = recorder_changed t (started_state t.instruments.recorder)

-- ---- the calls; whatever the memory is, which neither is lent. Where one is refused nothing was prepared or started, and so that the status
-- alone does not read as success it is 0x81, which neither call says when it is taken

pub record PrepareDone (block setup : List ℕ) (r : Said) (after : List ℕ) : Type 0 where
  pub result :
      (memory : List ℕ)
      → r
      ≡ cond (eqb (panel_number block) taken)
      (record { refusal = taken; status = (panel_prepares (gate_of (decoded block).instruments memory) setup).answer.status })
      (record { refusal = panel_number block; status = not_served })
  pub state :
      after ≡ cond (eqb (panel_number block) taken) (sets block 0 (encoded (prepared_target setup (decoded block)))) block

pub record StartDone (block : List ℕ) (r : Said) (after : List ℕ) : Type 0 where
  pub result :
      (memory : List ℕ)
      → r
      ≡ cond (eqb (panel_number block) taken)
      (record { refusal = taken; status = (panel_starts (gate_of (decoded block).instruments memory)).answer.status })
      (record { refusal = panel_number block; status = not_served })
  pub state : after ≡ cond (eqb (panel_number block) taken) (sets block 0 (encoded (started_target (decoded block)))) block
