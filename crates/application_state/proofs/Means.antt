-- What is stored stands for what the document says of it.
use mathlib.Core.Path.{◌≡◌, refl, ap, ◌∙◌}
use mathlib.Core.Bool.{Bool, true, false, cond, not}
use mathlib.Core.List.{List, []}
use Prim.Native.Nat.{ℕ, ◌≤◌}
use native.Mathlib.Omega.{arith}
use borrow.Author.Tests.{eqb-true, eq-eqb, ne_eqb, le-leb, leb-true}
use lib.Dec.{eqb, leb}
use lib.ListN.{length, take, drop, length-take}
use lib.Seq.{take-append_seam}
use Rattle.document.specs.Numbers.{most_data}
use Rattle.document.specs.Application.{after_collect, after_report, new_command, is_pending, is_collected as collectedNow}
use Rattle.document.specs.Application.Application.{none, waiting}
use Rattle.document.proofs.Cases.{split, neither, and_right}
use Rattle.application_state.specs.State.{is_none, is_waiting, is_collected, Command, application_of, no_command, sound, sent_command, collected_command, ended_command}

pub fresh_means : application_of no_command ≡ none
fresh_means = refl

pub sent_means : (body : List ℕ) (c : Command) → application_of (sent_command body c) ≡ waiting body
sent_means body c = ap waiting (take-append_seam body (drop (length body) c.bytes))

-- by the phase
module _ (c : Command) where
  -- only what waits is new
  not_new : eqb c.phase is_waiting ≡ false → application_of c ≡ after_collect (application_of c)
  not_new passed =
      split (eqb c.phase is_none)
      (λ no. rw no refl)
      (λ some. split (eqb c.phase is_collected) (λ done. rw (some, passed, done) refl) (λ over. rw (some, passed, over) refl))

  pub collected_means : application_of (collected_command c) ≡ after_collect (application_of c)
  collected_means =
      split (eqb c.phase is_waiting)
      (λ waits. rw (waits, eqb-true c.phase is_waiting waits) refl)
      (λ passed. ap (λ (t : Bool). application_of (cond t (record { phase = is_collected; count = c.count; result = c.result; bytes = c.bytes }) c)) passed ∙ not_new passed)

  pub ended_means : (result : ℕ) → collectedNow (application_of c) ≡ true → application_of (ended_command result c) ≡ after_report result (application_of c)
  ended_means result is =
      split (eqb c.phase is_none)
      (λ no. neither (rw no at is))
      (λ some.
      split (eqb c.phase is_waiting)
      (λ waits. neither (rw (some, waits) at is))
      (λ passed. split (eqb c.phase is_collected) (λ done. rw (some, passed, done) refl) (λ over. neither (rw (some, passed, over) at is))))

-- ---- the phase, looked at

module _ (c : Command) where
  pub collected_tested : eqb c.phase is_collected ≡ collectedNow (application_of c)
  collected_tested =
      split (eqb c.phase is_none)
      (λ no. rw (eqb-true c.phase is_none no) refl)
      (λ some.
      split (eqb c.phase is_waiting)
      (λ waits. rw (eqb-true c.phase is_waiting waits) refl)
      (λ passed. split (eqb c.phase is_collected) (λ done. rw (some, passed, done) refl) (λ over. rw (some, passed, over) refl)))

  pub pending_waits : c.phase ≡ is_waiting → true ≡ is_pending (application_of c)
  pending_waits is = rw is refl

  pub pending_else : (c.phase ≡ is_waiting → ⊥) → eqb c.phase is_collected ≡ is_pending (application_of c)
  pending_else is-not =
      let passed = ne_eqb c.phase is_waiting is-not in
      split (eqb c.phase is_none)
      (λ no. rw (eqb-true c.phase is_none no) refl)
      (λ some. split (eqb c.phase is_collected) (λ done. rw (some, passed, done) refl) (λ over. rw (some, passed, over) refl))

  -- what is new, and what is not
  pub new_waits : c.phase ≡ is_waiting → new_command (application_of c) ≡ take c.count c.bytes
  new_waits is = rw is refl

  pub nothing_new : (c.phase ≡ is_waiting → ⊥) → new_command (application_of c) ≡ []
  nothing_new is-not =
      let passed = ne_eqb c.phase is_waiting is-not in
      split (eqb c.phase is_none)
      (λ no. rw no refl)
      (λ some. split (eqb c.phase is_collected) (λ done. rw (some, passed, done) refl) (λ over. rw (some, passed, over) refl))

  -- no more than there is room for
  pub new_few : length (new_command (application_of c)) ≤ length c.bytes
  new_few =
      split (eqb c.phase is_none)
      (λ no. rw no (omega arith))
      (λ some. split (eqb c.phase is_waiting)
      (λ waits. rw (some, waits) (simp length-take (omega arith)))
      (λ passed. split (eqb c.phase is_collected) (λ done. rw (some, passed, done) (omega arith)) (λ over. rw (some, passed, over) (omega arith))))

  pub collected_none : (c.phase ≡ is_waiting → ⊥) → collected_command c ≡ c
  collected_none is-not = rw (ne_eqb c.phase is_waiting is-not) refl

  pub collected_some : c.phase ≡ is_waiting → collected_command c ≡ record { phase = is_collected; count = c.count; result = c.result; bytes = c.bytes }
  collected_some is = rw (eq-eqb c.phase is_waiting is) refl

  pub waiting_few : sound c ≡ true → c.phase ≡ is_waiting → c.count ≤ most_data
  unfolding sound
  waiting_few ok is =
      leb-true c.count most_data (and_right (not (eqb c.count 0)) (leb c.count most_data) (rw is at ok))

-- ---- and is within the bounds

pub fresh_sound : sound no_command ≡ true
unfolding sound
fresh_sound = refl

pub sent_sound : (body : List ℕ) (c : Command) → (length body ≡ 0 → ⊥) → length body ≤ most_data → sound (sent_command body c) ≡ true
unfolding sound
sent_sound body c some few = rw (ne_eqb (length body) 0 some, le-leb (length body) most_data few) refl

pub collected_sound : (c : Command) → sound (record { phase = is_collected; count = c.count; result = c.result; bytes = c.bytes }) ≡ true
unfolding sound
collected_sound c = refl

pub ended_sound : (result : ℕ) (c : Command) → result ≤ 0xFD → sound (ended_command result c) ≡ true
unfolding sound
ended_sound result c small = rw (le-leb result 0xFD small) refl
