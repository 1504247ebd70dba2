-- What a service leaves of scope and recorder: it stands for the gate that the definition leaves, and is within its bounds.
use mathlib.Core.Path.{◌≡◌, refl, ap}
use mathlib.Core.List.{List}
use Prim.Native.Nat.{ℕ, ◌≤◌}
use borrow.Author.Tests.{ne_eqb}
use lib.ListN.{length}
use Rattle.document.specs.Numbers.{most_data, done}
use Rattle.document.specs.Bytes.{AllBytes}
use Rattle.document.specs.Areas.{bytes_at}
use Rattle.document.specs.Fields.{size_field, address_field, data_place, data_field, mask_field}
use Rattle.document.specs.Stores.{masked_bytes}
use Rattle.document.specs.Gate.{Gate}
use Rattle.document.specs.Commands.{served}
use Rattle.document.specs.declared.Service.{Service}
use Rattle.scope_state.specs.Setup as scope
use Rattle.scope_state.specs.State.{scope_of}
use Rattle.scope_state.proofs.Accepted.{set_up_scope, next_refused}
use Rattle.document.specs.Recorder.{is_running}
use Rattle.recorder_state.specs.Preparing.{prepare_status, both_next}
use Rattle.recorder_state.specs.State.{recorder_of}
use Rattle.recorder_state.proofs.Answers.{both-mean}
use Rattle.recorder_state.proofs.Meanings.{started_means, halted_means}
use Rattle.document_outcomes.specs.Changes.{Change, change_of, changed, Accepted, Refused}
use Rattle.document_outcomes.specs.Changes.Change.{nothing, store, masked_store, scope_set_up, recorder_prepare_and_start, recorder_start, recorder_stop, command_sent}
use Rattle.document_outcomes.proofs.Served.{served_either, served_memory}
use Rattle.tables_state.specs.State.{tables_of}
use Rattle.application_state.specs.State.{application_of}
use Rattle.application_state.proofs.Sending.{send_refused, send_means, send_either}
use Rattle.state_parts.specs.State.{Instruments, gate_of, with_scope, with_application}
use Rattle.state_byte.specs.After.{instruments_changed, instruments_after}
use Rattle.state_parts.specs.Within.{ScopeWithin, RecorderWithin, CommandWithin, MemoryWithin}
use Rattle.state_parts.proofs.ByteLaws.{all_range, all_masked}
use Rattle.state_parts.proofs.Keeps.{scope_set_up_lem, recorder_both, recorder_started_lem, recorder_halted_lem, memory_stored, command_sent_lem}

module _ (i : Instruments) (memory : List ℕ) (s : Service) (body : List ℕ) where
  abbrev g : Gate
  g = gate_of i memory

  refused_kept : (c : Change) → Refused c g s body → instruments_changed c i s body ≡ i
  unfolding scope.set_up_status prepare_status both_next
  refused_kept nothing r = refl
  refused_kept store r = refl
  refused_kept masked_store r = refl
  refused_kept scope_set_up r = λ j. with_scope i (next_refused s.ex body i.scope r j)
  refused_kept recorder_prepare_and_start r = rw (ne_eqb (prepare_status (is_running (recorder_of i.recorder)) s.ex body) done r) refl
  refused_kept recorder_start r = rw r refl
  refused_kept recorder_stop r = rw r refl
  refused_kept command_sent r = λ j. with_application i (send_refused body i.application g refl r j)

  accepted_kept : (c : Change) → Accepted c g s body → gate_of (instruments_changed c i s body) (changed c g s body).memory ≡ changed c g s body
  unfolding scope.set_up_status prepare_status
  accepted_kept nothing a = refl
  accepted_kept store a = refl
  accepted_kept masked_store a = refl
  accepted_kept scope_set_up a =
      λ j. record { memory = memory; scope = set_up_scope s.ex body i.scope a j; recorder = recorder_of i.recorder; application = application_of i.application; tables = tables_of i.tables }
  accepted_kept recorder_prepare_and_start a =
      λ j. record { memory = memory; scope = scope_of i.scope; recorder = both-mean i.recorder s.ex body a j; application = application_of i.application; tables = tables_of i.tables }
  accepted_kept recorder_start a =
      λ j. record { memory = memory; scope = scope_of i.scope; recorder = started_means i.recorder j; application = application_of i.application; tables = tables_of i.tables }
  accepted_kept recorder_stop a =
      λ j. record { memory = memory; scope = scope_of i.scope; recorder = halted_means i.recorder j; application = application_of i.application; tables = tables_of i.tables }
  accepted_kept command_sent a =
      λ j. record { memory = memory; scope = scope_of i.scope; recorder = recorder_of i.recorder; application = send_means body i.application g refl a j; tables = tables_of i.tables }

  pub served_kept : gate_of (instruments_after s.operation i s body) (served g s body).gate.memory ≡ (served g s body).gate
  served_kept =
      served_either g s body (λ (q : Gate). gate_of (instruments_after s.operation i s body) q.memory ≡ q)
      (λ refused. ap (λ (k : Instruments). gate_of k memory) (refused_kept (change_of s.operation) refused))
      (accepted_kept (change_of s.operation))

-- ---- within bounds

module _ (i : Instruments) (s : Service) (body : List ℕ) (all : AllBytes body) where
  pub scope_changed : (c : Change) → ScopeWithin i.scope → ScopeWithin (instruments_changed c i s body).scope
  scope_changed nothing w = w
  scope_changed store w = w
  scope_changed masked_store w = w
  scope_changed scope_set_up w = scope_set_up_lem s.ex body all i.scope w
  scope_changed recorder_prepare_and_start w = w
  scope_changed recorder_start w = w
  scope_changed recorder_stop w = w
  scope_changed command_sent w = w

  pub recorder_changed_lem : (c : Change) → RecorderWithin i.recorder → RecorderWithin (instruments_changed c i s body).recorder
  recorder_changed_lem nothing w = w
  recorder_changed_lem store w = w
  recorder_changed_lem masked_store w = w
  recorder_changed_lem scope_set_up w = w
  recorder_changed_lem recorder_prepare_and_start w = recorder_both s.ex body all i.recorder w
  recorder_changed_lem recorder_start w = recorder_started_lem i.recorder w
  recorder_changed_lem recorder_stop w = recorder_halted_lem i.recorder w
  recorder_changed_lem command_sent w = w

  pub application_changed : (c : Change) → length body ≤ most_data → CommandWithin i.application → CommandWithin (instruments_changed c i s body).application
  application_changed nothing few w = w
  application_changed store few w = w
  application_changed masked_store few w = w
  application_changed scope_set_up few w = w
  application_changed recorder_prepare_and_start few w = w
  application_changed recorder_start few w = w
  application_changed recorder_stop few w = w
  application_changed command_sent few w =
      send_either body i.application CommandWithin w (λ some. command_sent_lem i.application body w all some few)

-- no service changes the tables
pub tables_changed : (i : Instruments) (s : Service) (body : List ℕ) (c : Change) → (instruments_changed c i s body).tables ≡ i.tables
tables_changed i s body nothing = refl
tables_changed i s body store = refl
tables_changed i s body masked_store = refl
tables_changed i s body scope_set_up = refl
tables_changed i s body recorder_prepare_and_start = refl
tables_changed i s body recorder_start = refl
tables_changed i s body recorder_stop = refl
tables_changed i s body command_sent = refl

pub memory_served : (g : Gate) (s : Service) (body : List ℕ) → AllBytes body → MemoryWithin g.memory → MemoryWithin (served g s body).gate.memory
memory_served g s body all w =
    let at : ℕ = address_field s body in
    let values : List ℕ = data_field s body in
    let masks : List ℕ = mask_field s body in
    let old : List ℕ = bytes_at g.memory at (length values) in
    served_memory g s body MemoryWithin w
    (λ may. memory_stored g.memory at values w (all_range body (data_place s) (size_field s body) all))
    (λ may. memory_stored g.memory at (masked_bytes old values masks) w (all_masked old values masks))
