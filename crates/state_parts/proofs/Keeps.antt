-- What the calls of scope and recorder leave is within bounds and widths, where what they found was.
use mathlib.Core.Path.{◌≡◌, refl, ◌∙◌}
use mathlib.Core.Bool.{Bool, true}
use mathlib.Core.List.{List, []}
use Prim.Native.Nat.{ℕ, ◌+◌, ◌*◌, ◌^◌, ◌<◌, ◌≤◌}
use native.Mathlib.Omega.{arith}
use borrow.Author.Tests.{eqb-true}
use lib.Dec.{eqb}
use lib.ListN.{length, take, drop, length-append, length-drop}
use Rattle.document.specs.Numbers.{most_data, done}
use Rattle.document.specs.Areas.{bytes_at}
use Rattle.document.specs.Bytes.{AllBytes}
use Rattle.document.specs.Stores.{stored}
use Rattle.document.specs.Variables.{address_width}
use Rattle.document.specs.Plan.{mode_field, trigger_size_field, plan_in}
use Rattle.document.specs.Trigger.{trigger_value}
use Rattle.document.specs.Run.{set_of, place_begins, memory_after_tick}
use Rattle.document.specs.Recorder.{Recorder, is_running, ticked_memory}
use Rattle.document.specs.Recorder.Recorder.{absent, planned}
use Rattle.document.proofs.Cases.{split}
use Rattle.memory_ranges.proofs.Copies.{stored_length}
use Rattle.line_receiver.proofs.Sound.{reset_sound}
use Rattle.scope_state.specs.declared.Scope.{Scope}
use Rattle.scope_state.specs.Setup as scope
use Rattle.scope_state.proofs.Bounds.{new_sound as new-scope}
use Rattle.scope_state.proofs.Accepted as scope-accepted
use Rattle.recorder_plans.specs.State.{trigger_of}
use Rattle.recorder_state.specs.declared.state.Recorder.{Recorder as RecorderState}
use Rattle.recorder_state.specs.State.{recorder_of}
use Rattle.recorder_state.specs.Preparing.{prepare_status, prepared_state, both_next}
use Rattle.recorder_state.specs.Calls.{started_state, halted_state}
use Rattle.recorder_taking.specs.Tick.{ticked_state}
use Rattle.recorder_state.proofs.Answers as recorder-answers
use Rattle.recorder_state.proofs.Keeps as recorder-keeps
use Rattle.recorder_taking.proofs.Ticked.{ticked_sound}
use Rattle.tables_state.specs.State as tables
use Rattle.tables_state.specs.State.{Registered, list_length, no_tables}
use Rattle.application_state.specs.State.{is_waiting, Command, sent_command, collected_command, ended_command}
use Rattle.application_state.proofs.Means.{fresh_sound, sent_sound, collected_sound, ended_sound}
use Rattle.state_parts.specs.State.{Target}
use Rattle.state_parts.specs.Bounds.{sound, fresh_with}
use Rattle.state_parts.specs.Widths.{TargetFits}
use Rattle.state_parts.specs.Within.{ScopeWithin, RecorderWithin, CommandWithin, TablesWithin, MemoryWithin, Within}
use Rattle.state_parts.proofs.Parts.{whole_of}
use Rattle.state_parts.proofs.ByteLaws.{take_short, all_sets, all_take, all_range, all_values, all_zeros, number_below, all_append, all_drop}
use Rattle.state_parts.proofs.Fits.{scope_fit, prepared_fit, started_fit, halted_fit, ticked_fit, kept_fit, no_recorder_fit}

-- ---- the numbers that bytes of the memory or a message hold

-- "only the first 'trigger size' bytes count"
threshold_fits : (ex : Bool) (body : List ℕ) → AllBytes body
    → (plan_in ex body).trigger.size ≤ 4 → (plan_in ex body).trigger.threshold < 2 ^ (8 * (plan_in ex body).trigger.size)
unfolding plan_in
threshold_fits ex body all small =
    let size : ℕ = trigger_size_field ex body in
    let four : List ℕ = bytes_at body (9 + address_width ex) 4 in
    split (eqb (mode_field body) 0)
    (λ none. rw none (omega arith))
    (λ some. rw some (number_below (take size four) size (all_take size four (all_range body (9 + address_width ex) 4 all)) (take_short size four)))

value_fits : (r : RecorderState) (m : List ℕ) → AllBytes m → trigger_value (trigger_of r.plan) m < 2 ^ (8 * r.plan.size)
value_fits r m all =
    number_below (bytes_at m r.plan.address r.plan.size) r.plan.size (all_range m r.plan.address r.plan.size all)
    (take_short r.plan.size (drop r.plan.address m))

-- ---- setups, a preparing, start and stop

module _ (ex : Bool) (body : List ℕ) (all : AllBytes body) where
  pub scope_set_up_lem : (s : Scope) → ScopeWithin s → ScopeWithin (scope.set_up_next s ex body)
  scope_set_up_lem s w =
      record { sound = scope-accepted.set_up_sound ex body s w.sound; fits = scope_fit s ex body all w.fits }

  pub recorder_prepared_lem : (running : Bool) → prepare_status running ex body ≡ done → RecorderWithin (prepared_state ex body)
  recorder_prepared_lem running taken =
      record {
        sound = recorder-answers.prepared-sound running ex body taken (threshold_fits ex body all);
        fits = prepared_fit ex body all;
      }

pub recorder_started_lem : (r : RecorderState) → RecorderWithin r → RecorderWithin (started_state r)
recorder_started_lem r w = record { sound = recorder-keeps.started_sound r w.sound; fits = started_fit r w.fits }

pub recorder_halted_lem : (r : RecorderState) → RecorderWithin r → RecorderWithin (halted_state r)
recorder_halted_lem r w = record { sound = recorder-keeps.halted_sound r w.sound; fits = halted_fit r w.fits }

-- "the two in a row"
pub recorder_both : (ex : Bool) (body : List ℕ) → AllBytes body → (r : RecorderState) → RecorderWithin r → RecorderWithin (both_next r ex body)
unfolding both_next
recorder_both ex body all r w =
    split (eqb (prepare_status (is_running (recorder_of r)) ex body) done)
    (λ none. rw none (recorder_started_lem (prepared_state ex body) (recorder_prepared_lem ex body all (is_running (recorder_of r)) (eqb-true _ _ none))))
    (λ some. rw some w)

-- ---- a tick

pub recorder_ticked : (r : RecorderState) (m : List ℕ) → RecorderWithin r → MemoryWithin m → RecorderWithin (ticked_state r m)
recorder_ticked r m w good =
    let ok = ticked_sound r m w.sound (λ runs due. value_fits r m good.bytes) in
    record { sound = ok; fits = ticked_fit r m ok w.fits }

pub memory_stored : (m : List ℕ) (a : ℕ) (vs : List ℕ) → MemoryWithin m → AllBytes vs → MemoryWithin (stored m a vs)
memory_stored m a vs good all =
    record { size = stored_length m (stored m a vs) vs a refl ∙ good.size; bytes = all_sets vs m a good.bytes all }

pub memory_ticked : (r : Recorder) (m : List ℕ) → MemoryWithin m → MemoryWithin (ticked_memory r m)
unfolding memory_after_tick
memory_ticked absent m good = good
memory_ticked (planned p r) m good =
    split r.running
    (λ runs. split (eqb r.wait 0)
    (λ due. rw (runs, due) (memory_stored m (place_begins p r.place) (set_of p m) good (all_values m p.variables good.bytes)))
    (λ waits. rw (runs, waits) good))
    (λ still. rw still good)

-- ---- an application command

pub command_sent_lem : (c : Command) (body : List ℕ) → CommandWithin c → AllBytes body → (length body ≡ 0 → ⊥) → length body ≤ most_data → CommandWithin (sent_command body c)
command_sent_lem c body w all some few =
    record {
      sound = sent_sound body c some few;
      size = simp (length-append, length-drop) (omega (arith, few, w.size));
      bytes = all_append body (drop (length body) c.bytes) all (all_drop (length body) c.bytes w.bytes);
    }

pub command_collected : (c : Command) → CommandWithin c → CommandWithin (collected_command c)
command_collected c w =
    split (eqb c.phase is_waiting)
    (λ waits. rw waits (record { sound = collected_sound c; size = w.size; bytes = w.bytes }))
    (λ passed. rw passed w)

pub command_ended : (c : Command) (result : ℕ) → CommandWithin c → result ≤ 0xFD → CommandWithin (ended_command result c)
command_ended c result w small = record { sound = ended_sound result c small; size = w.size; bytes = w.bytes }

-- ---- the whole

module _ (t : Target) (memory : List ℕ) (w : Within t memory) where
  pub within_sound : sound t ≡ true
  within_sound =
      whole_of t (record { receiver = w.link_part.receiver; scope_part = w.scope_part.sound; recorder_part = w.recorder_part.sound; application_part = w.application_part.sound; tables_part = w.tables_part.sound })

  pub within_fits : TargetFits t
  within_fits = record { body = w.link_part.size; scope = w.scope_part.fits; recorder = w.recorder_part.fits; application = w.application_part.size; tables = w.tables_part.size }

-- at reset, with tables
pub within_registered : (registered : Registered) (memory : List ℕ) → TablesWithin registered → MemoryWithin memory → Within (fresh_with registered) memory
within_registered registered memory listed good =
    record {
      link_part = record { receiver = reset_sound; command = omega arith; size = refl; body = all_zeros 64 };
      scope_part = record { sound = new-scope; fits = kept_fit [] tt };
      recorder_part = record { sound = recorder-answers.new_sound; fits = no_recorder_fit };
      application_part = record { sound = fresh_sound; size = refl; bytes = all_zeros 64 };
      tables_part = listed;
      memory_part = good;
    }

pub no_tables_lem : TablesWithin no_tables
unfolding tables.sound
no_tables_lem = record { sound = refl; size = refl; bytes = all_zeros list_length }
