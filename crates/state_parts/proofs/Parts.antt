-- The bounds of the whole state, part by part.
use mathlib.Core.Path.{◌≡◌, refl, sym}
use mathlib.Core.Bool.{true, false, ◌&&◌}
use Rattle.line_receiver.specs.Bounds as link
use Rattle.scope_state.specs.State as scope
use Rattle.recorder_state.specs.Bounds as recorder
use Rattle.document.proofs.Cases.{and_left, and_right}
use Rattle.application_state.specs.State as application
use Rattle.tables_state.specs.State as tables
use Rattle.state_parts.specs.State.{Target}
use Rattle.state_parts.specs.Bounds.{sound}

module _ (t : Target) where
  pub receiver_outside : link.sound t.receiver ≡ false → false ≡ sound t
  unfolding sound
  receiver_outside e = sym (rw e refl)

  module _ (receiver : link.sound t.receiver ≡ true) where
    pub scope_outside : scope.sound t.instruments.scope ≡ false → false ≡ sound t
    unfolding sound
    scope_outside e = sym (rw (receiver, e) refl)

    module _ (scope-inside : scope.sound t.instruments.scope ≡ true) where
      pub recorder_outside : recorder.sound t.instruments.recorder ≡ false → false ≡ sound t
      unfolding sound
      recorder_outside e = sym (rw (receiver, scope-inside, e) refl)

      module _ (recorder-inside : recorder.sound t.instruments.recorder ≡ true) where
        pub application_outside : application.sound t.instruments.application ≡ false → false ≡ sound t
        unfolding sound
        application_outside e = sym (rw (receiver, scope-inside, recorder-inside, e) refl)

        pub tables_decide : application.sound t.instruments.application ≡ true → tables.sound t.instruments.tables ≡ sound t
        unfolding sound
        tables_decide e = sym (rw (receiver, scope-inside, recorder-inside, e) refl)

-- and back
pub record Parts (t : Target) : Type 0 where
  pub receiver : link.sound t.receiver ≡ true
  pub scope_part : scope.sound t.instruments.scope ≡ true
  pub recorder_part : recorder.sound t.instruments.recorder ≡ true
  pub application_part : application.sound t.instruments.application ≡ true
  pub tables_part : tables.sound t.instruments.tables ≡ true

pub parts_of_lem : (t : Target) → sound t ≡ true → Parts t
unfolding sound
parts_of_lem t ok =
    let scope-in = scope.sound t.instruments.scope in
    let recorder-in = recorder.sound t.instruments.recorder in
    let application-in = application.sound t.instruments.application in
    let tables-in = tables.sound t.instruments.tables in
    let rest = and_right (link.sound t.receiver) (scope-in && (recorder-in && (application-in && tables-in))) ok in
    let behind_scope = and_right scope-in (recorder-in && (application-in && tables-in)) rest in
    let last = and_right recorder-in (application-in && tables-in) behind_scope in
    record {
      receiver = and_left (link.sound t.receiver) _ ok;
      scope_part = and_left scope-in _ rest;
      recorder_part = and_left recorder-in _ behind_scope;
      application_part = and_left application-in _ last;
      tables_part = and_right application-in _ last;
    }

pub whole_of : (t : Target) → Parts t → sound t ≡ true
unfolding sound
whole_of t p = rw (p.receiver, p.scope_part, p.recorder_part, p.application_part, p.tables_part) refl
