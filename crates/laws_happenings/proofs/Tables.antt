-- "demand 3's fresh link has the same tables" (2026-03): nothing that happens since reset changes the tables.
use mathlib.Core.Path.{◌≡◌, refl, ◌∙◌}
use mathlib.Core.List.{List, [], ◌∷◌}
use Prim.Native.Nat.{ℕ}
use Rattle.document.specs.Message.{Message, finished_by}
use Rattle.document.specs.Services.{service_of}
use Rattle.document.specs.Gate.{Gate}
use Rattle.document.specs.Commands.{answered}
use Rattle.document.specs.Happenings.{Happening, Since, after_messages, after, after_all}
use Rattle.document.specs.Happenings.Happening.{byte, aside}
use Rattle.document.specs.declared.Service.{Service}
use Rattle.document_outcomes.specs.Changes.{Change, change_of, changed}
use Rattle.document_outcomes.specs.Changes.Change.{nothing, store, masked_store, scope_set_up, recorder_prepare_and_start, recorder_start, recorder_stop, command_sent}
use Rattle.document_outcomes.proofs.Answered.{answered_gate}
use Rattle.laws_happenings.proofs.Asides.{leaves}

changed_tables : (c : Change) (g : Gate) (s : Service) (body : List ℕ) → (changed c g s body).tables ≡ g.tables
changed_tables nothing g s body = refl
changed_tables store g s body = refl
changed_tables masked_store g s body = refl
changed_tables scope_set_up g s body = refl
changed_tables recorder_prepare_and_start g s body = refl
changed_tables recorder_start g s body = refl
changed_tables recorder_stop g s body = refl
changed_tables command_sent g s body = refl

pub message_tables : (g : Gate) (m : Message) → (answered g m).gate.tables ≡ g.tables
message_tables g m =
    answered_gate g m (λ (q : Gate). q.tables ≡ g.tables) refl
    (λ accepted. changed_tables (change_of (service_of m.command).operation) g (service_of m.command) m.body)

told_tables : (s : Since) (ms : List Message) → (after_messages s ms).gate.tables ≡ s.gate.tables
told_tables s [] = refl
told_tables s (m ∷ ms) = message_tables s.gate m

pub happening_tables : (s : Since) (h : Happening) → (after s h).gate.tables ≡ s.gate.tables
happening_tables s (byte b) = told_tables _ (finished_by s.bytes b)
happening_tables s (aside a) = (leaves s.gate a).tables

pub tables_kept_lem : (hs : List Happening) (s : Since) → (after_all s hs).gate.tables ≡ s.gate.tables
tables_kept_lem [] s = refl
tables_kept_lem (h ∷ hs) s = tables_kept_lem hs (after s h) ∙ happening_tables s h
