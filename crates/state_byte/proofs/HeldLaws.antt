-- What is held of a message, answered: the structs stand for the gate that is left, and everything is within bounds.
use mathlib.Core.Path.{◌≡◌, refl}
use mathlib.Core.List.{List}
use Prim.Native.Nat.{ℕ, ◌≤◌}
use lib.ListN.{length}
use lib.Dec.{eqb, ltb}
use Rattle.document.specs.Numbers.{most_data}
use Rattle.document.specs.Bytes.{AllBytes}
use Rattle.document.specs.Services.{service_of}
use Rattle.document.specs.Gate.{Gate}
use Rattle.document.specs.declared.Service.{Service}
use Rattle.document.proofs.Cases.{split}
use Rattle.line_receiver.specs.Report.{HeldMessage}
use Rattle.document_outcomes.specs.Changes.{change_of}
use Rattle.state_parts.specs.State.{Instruments, gate_of}
use Rattle.state_byte.specs.After.{instruments_after}
use Rattle.state_byte.specs.AnsweredHeld.{answered_held, instruments_held}
use Rattle.state_parts.specs.Within.{ScopeWithin, RecorderWithin, CommandWithin, MemoryWithin}
use Rattle.state_byte.proofs.Changed.{served_kept, scope_changed, recorder_changed_lem, application_changed, tables_changed, memory_served}

pub held_kept : (i : Instruments) (memory : List ℕ) (h : HeldMessage)
    → gate_of (instruments_held i h) (answered_held (gate_of i memory) h).gate.memory ≡ (answered_held (gate_of i memory) h).gate
unfolding answered_held instruments_held
held_kept i memory h =
    split (eqb h.sum 0)
    (λ right. split (ltb most_data h.length)
    (λ long. rw (right, long) refl)
    (λ short. rw (right, short) (served_kept i memory (service_of h.command) h.kept)))
    (λ wrong. rw wrong refl)

module _ (i : Instruments) (h : HeldMessage) where
  -- what holds of the instruments, and of what the service leaves, holds of those that are left
  instruments_held_lem : (P : Instruments → Type 0) → P i → P (instruments_after (service_of h.command).operation i (service_of h.command) h.kept) → P (instruments_held i h)
  unfolding instruments_held
  instruments_held_lem P same after =
      split (eqb h.sum 0)
      (λ right. split (ltb most_data h.length) (λ long. rw (right, long) same) (λ short. rw (right, short) after))
      (λ wrong. rw wrong same)

  pub tables_held : (instruments_held i h).tables ≡ i.tables
  tables_held =
      instruments_held_lem (λ (k : Instruments). k.tables ≡ i.tables) refl
      (tables_changed i (service_of h.command) h.kept (change_of (service_of h.command).operation))

  module _ (all : AllBytes h.kept) where
    abbrev s : Service
    s = service_of h.command

    pub scope_within : ScopeWithin i.scope → ScopeWithin (instruments_held i h).scope
    scope_within w = instruments_held_lem (λ (k : Instruments). ScopeWithin k.scope) w (scope_changed i s h.kept all (change_of s.operation) w)

    pub recorder_within : RecorderWithin i.recorder → RecorderWithin (instruments_held i h).recorder
    recorder_within w =
        instruments_held_lem (λ (k : Instruments). RecorderWithin k.recorder) w (recorder_changed_lem i s h.kept all (change_of s.operation) w)

    pub application_within : length h.kept ≤ most_data → CommandWithin i.application → CommandWithin (instruments_held i h).application
    application_within few w =
        instruments_held_lem (λ (k : Instruments). CommandWithin k.application) w (application_changed i s h.kept all (change_of s.operation) few w)

pub memory_within : (g : Gate) (h : HeldMessage) → AllBytes h.kept → MemoryWithin g.memory → MemoryWithin (answered_held g h).gate.memory
unfolding answered_held
memory_within g h all w =
    split (eqb h.sum 0)
    (λ right. split (ltb most_data h.length)
    (λ long. rw (right, long) w)
    (λ short. rw (right, short) (memory_served g (service_of h.command) h.kept all w)))
    (λ wrong. rw wrong w)
