-- What is said of the application command, and what a 0x10 leaves of it.
use mathlib.Core.Path.{◌≡◌, refl, sym}
use mathlib.Core.Bool.{true, false}
use mathlib.Core.List.{List, [], ◌∷◌}
use Prim.Native.Nat.{ℕ}
use borrow.Author.Tests.{eq-eqb, ne_eqb}
use lib.Dec.{eqb}
use lib.ListN.{length}
use Rattle.document.specs.Numbers.{done, busy, layout_wrong}
use Rattle.document.specs.Application.{Application, is_pending, result_byte}
use Rattle.document.specs.Application.Application.{none, waiting, collected, ended}
use Rattle.document.specs.Gate.{Gate}
use Rattle.document.specs.Commands.{served}
use Rattle.document.specs.declared.Operation.TheVariants.{SendCommand, CommandResult}
use Rattle.document.specs.declared.Service.{Service}
use Rattle.document.proofs.Cases.{split, neither}
use Rattle.application_state.specs.State.{is_none, is_waiting, is_collected, Command, application_of, send_next, sent_command}
use Rattle.document_outcomes.specs.Known.{known_as}
use Rattle.serve_recorder.specs.Operates.{status_alone}

-- ---- 0x10

module _ (g : Gate) (s : Service) (body : List ℕ) where
  pub send_busy : is_pending g.application ≡ true → status_alone busy ≡ (served g (known_as SendCommand s) body).answer
  unfolding served
  send_busy pending = rw pending refl

  pub send_empty : is_pending g.application ≡ false → length body ≡ 0 → status_alone layout_wrong ≡ (served g (known_as SendCommand s) body).answer
  unfolding served
  send_empty free empty = rw (free, eq-eqb (length body) 0 empty) refl

  pub send_done : is_pending g.application ≡ false → (length body ≡ 0 → ⊥) → status_alone done ≡ (served g (known_as SendCommand s) body).answer
  unfolding served
  send_done free some = rw (free, ne_eqb (length body) 0 some) refl

  pub result_told : record { status = done; body = result_byte g.application ∷ [] } ≡ (served g (known_as CommandResult s) body).answer
  unfolding served
  result_told = refl

module _ (body : List ℕ) (c : Command) where
  pub kept_busy : is_pending (application_of c) ≡ true → c ≡ send_next body c
  unfolding send_next
  kept_busy pending = rw pending refl

  pub kept_empty : is_pending (application_of c) ≡ false → length body ≡ 0 → c ≡ send_next body c
  unfolding send_next
  kept_empty free empty = rw (free, eq-eqb (length body) 0 empty) refl

  pub sent_next : is_pending (application_of c) ≡ false → (length body ≡ 0 → ⊥) → sent_command body c ≡ send_next body c
  unfolding send_next
  sent_next free some = rw (free, ne_eqb (length body) 0 some) refl

-- ---- 0xC6

pub no_result : (a : Application) → is_pending a ≡ true → 0xFE ≡ result_byte a
no_result none is = neither is
no_result (waiting command) is = refl
no_result collected is = refl
no_result (ended result) is = neither is

module _ (c : Command) where
  pub no_command_lem : c.phase ≡ is_none → 0xFF ≡ result_byte (application_of c)
  no_command_lem is = rw is refl

  pub result_in : is_pending (application_of c) ≡ false → (c.phase ≡ is_none → ⊥) → c.result ≡ result_byte (application_of c)
  result_in free some =
      let began = ne_eqb c.phase is_none some in
      split (eqb c.phase is_waiting)
      (λ waits. neither (sym (rw (began, waits) at free)))
      (λ passed. split (eqb c.phase is_collected)
      (λ done. neither (sym (rw (began, passed, done) at free)))
      (λ over. rw (began, passed, over) refl))
