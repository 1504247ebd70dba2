-- What a collection and a report promise: the result and every lent byte, refused or not. At exit the block holds the encoding of the
-- definition's next state, and bytes behind it keep their values.
use Rattle.std.specs.Prelude.{◌≡◌, cond, List, ℕ, eqb, length}
use Rattle.std.proofs.lemmas.List.Edits.{sets}
use Rattle.document.specs.Numbers.{taken}
use Rattle.document.specs.Application.{new_command, collect_buffer}
use Rattle.application_state.specs.State.{Command, application_of, collected_command, ended_command}
use Rattle.state_parts.specs.State.{with_instruments, Target, with_application}
use Rattle.state_block.specs.Layout.{decoded_application, decoded, encoded}
use Rattle.call_checks.specs.Promises.{collect_number, report_number}
use Rattle.call_application.specs.declared.Collected.{Collected}

-- the link, the scope and the recorder know nothing of the gate's own program
abbrev pub with_command : Target → Command → Target
with_command t c = with_instruments t (with_application t.instruments c)

abbrev pub collected_target : Target → Target
collected_target t = with_command t (collected_command t.instruments.application)

abbrev pub reported_target : ℕ → Target → Target
reported_target result t = with_command t (ended_command result t.instruments.application)

pub record CollectDone (block buffer : List ℕ) (r : Collected) (after told : List ℕ) : Type 0 where
  pub result :
      r
      ≡ cond (eqb (collect_number block buffer) taken)
      (record { refusal = taken; length = length (new_command (application_of (decoded_application block))) })
      (record { refusal = collect_number block buffer; length = 0 })
  pub state :
      after ≡ cond (eqb (collect_number block buffer) taken) (sets block 0 (encoded (collected_target (decoded block)))) block
  pub buffer_told :
      told
      ≡ cond (eqb (collect_number block buffer) taken) (collect_buffer (application_of (decoded_application block)) buffer) buffer

pub record ReportDone (block : List ℕ) (result r : ℕ) (after : List ℕ) : Type 0 where
  pub number : r ≡ report_number block result
  pub state :
      after ≡ cond (eqb (report_number block result) taken) (sets block 0 (encoded (reported_target result (decoded block)))) block
