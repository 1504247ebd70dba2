-- Of the messages 0x10 alone sends an application command: what each makes of it, and what is said while one is pending (2026-01).
use mathlib.Core.Path.{◌≡◌, refl, sym, ap, subst, ◌∙◌}
use mathlib.Core.Bool.{Bool, true, false, cond, not, ◌||◌, ◌&&◌, and-false}
use mathlib.Core.List.{List, [], ◌∷◌}
use Prim.Native.Nat.{ℕ}
use borrow.Author.Tests.{eqb-true, not-true}
use lib.Dec.{eqb, ltb}
use lib.ListN.{length}
use Rattle.document.specs.Numbers.{most_data, done, busy}
use Rattle.document.specs.Message.{Message, sum_right}
use Rattle.document.specs.Services.{Listed, commands, service_of}
use Rattle.document.specs.Application.{Application, is_pending, result_byte}
use Rattle.document.specs.Application.Application.{none, waiting, collected, ended}
use Rattle.document.specs.Gate.{Gate, says}
use Rattle.document.specs.Refusals.{send_lines, first_of, refusal}
use Rattle.document.specs.Commands.{served, answered}
use Rattle.document.specs.declared.Operation.TheVariants.{Unserved}
use Rattle.document.specs.declared.Service.{Service}
use Rattle.document.proofs.Cases.{split, neither, both}
use Rattle.document_outcomes.specs.Changes.{Change, change_of, changed, Accepted}
use Rattle.document_outcomes.specs.Changes.Change.{nothing, store, masked_store, scope_set_up, recorder_prepare_and_start, recorder_start, recorder_stop, command_sent}
use Rattle.document_outcomes.proofs.Answered.{answered_served, accepted_gate, accepted, refused_gate}
use Rattle.document_outcomes.proofs.Firsts.{none_applies}
use Rattle.document_outcomes.specs.Sending.{sends, unrefused_so_far, WhilePending}

-- ---- of the list "Commands", only 0x10 sends

abbrev is_sent : Change → Bool
is_sent nothing = false
is_sent store = false
is_sent masked_store = false
is_sent scope_set_up = false
is_sent recorder_prepare_and_start = false
is_sent recorder_start = false
is_sent recorder_stop = false
is_sent command_sent = true

abbrev is_sending : Service → Bool
is_sending s = is_sent (change_of s.operation)

-- the list's search
abbrev found : ℕ → List Listed → Service
found c [] = record { operation = Unserved; ex = false; size = 0 }
found c (l ∷ ls) = cond (eqb c l.command) l.service (found c ls)

abbrev only_sends : List Listed → Bool
only_sends [] = true
only_sends (l ∷ ls) = (eqb l.command 0x10 || not (is_sending l.service)) && only_sends ls

others_found : (c : ℕ) → eqb c 0x10 ≡ false → (ls : List Listed) → only_sends ls ≡ true → is_sending (found c ls) ≡ false
others_found c other [] only = refl
others_found c other (l ∷ ls) only =
    let t = both (eqb l.command 0x10 || not (is_sending l.service)) (only_sends ls) only in
    split (eqb c l.command)
    (λ this.
    let is : c ≡ l.command = eqb-true c l.command this in
    let no : eqb l.command 0x10 ≡ false = subst (λ (d : ℕ). eqb d 0x10 ≡ false) is other in
    rw this (not-true (is_sending l.service) (rw no at t.0)))
    (λ next. rw next (others_found c other ls t.1))

others_send_nothing : (c : ℕ) → eqb c 0x10 ≡ false → is_sending (service_of c) ≡ false
unfolding service_of
others_send_nothing c other = others_found c other commands refl

-- ---- what a message makes of the command

pending_byte : (a : Application) → is_pending a ≡ true → result_byte a ≡ 0xFE
pending_byte none pending = neither pending
pending_byte (waiting command) pending = refl
pending_byte collected pending = refl
pending_byte (ended result) pending = neither pending

module _ (g : Gate) (s : Service) (body : List ℕ) where
  not_sent : (c : Change) → is_sent c ≡ false → (changed c g s body).application ≡ g.application
  not_sent nothing other = refl
  not_sent store other = refl
  not_sent masked_store other = refl
  not_sent scope_set_up other = refl
  not_sent recorder_prepare_and_start other = refl
  not_sent recorder_start other = refl
  not_sent recorder_stop other = refl
  not_sent command_sent other = neither (sym other)

-- "an empty data part", "while one is pending": neither is accepted
pub free_to_send : (g : Gate) (body : List ℕ) → first_of (send_lines g body) ≡ done → (is_pending g.application ≡ false) × (eqb (length body) 0 ≡ false)
free_to_send g body unrefused =
    let t = none_applies (send_lines g body) (refl, refl, (refl, refl, tt)) unrefused in (t.0, t.1.0)

module _ (g : Gate) (m : Message) where
  abbrev service : Service
  service = service_of m.command

  abbrev change : Change
  change = change_of service.operation

  0x10-sends : eqb m.command 0x10 ≡ true → change ≡ command_sent
  unfolding service_of
  0x10-sends is = ap (λ (c : ℕ). change_of (service_of c).operation) (eqb-true m.command 0x10 is)

  -- "as it stood in its message", or nothing
  pub application_after : (answered g m).gate.application ≡ cond (sends g m) (waiting m.body) g.application
  application_after =
      split (eqb (refusal g m) done)
      (λ none. ap (λ (q : Gate). q.application) (accepted_gate g m (eqb-true (refusal g m) done none)) ∙ rw none by_command)
      (λ some. ap (λ (q : Gate). q.application) (refused_gate g m some) ∙ rw (some, and-false (eqb m.command 0x10)) refl)
    where
      by_command : (changed change g service m.body).application ≡ cond (eqb m.command 0x10 && true) (waiting m.body) g.application
      by_command =
          split (eqb m.command 0x10)
          (λ is. rw is (ap (λ (c : Change). (changed c g service m.body).application) (0x10-sends is)))
          (λ no. rw no (not_sent g service m.body change (others_send_nothing m.command no)))

  -- what is accepted had nothing pending before it, and has its code at least
  pub sent_accepted : sends g m ≡ true → first_of (send_lines g m.body) ≡ done
  sent_accepted send =
      let t = both (eqb m.command 0x10) (eqb (refusal g m) done) send in
      subst (λ (c : Change). Accepted c g service m.body) (0x10-sends t.0) (accepted g m (eqb-true (refusal g m) done t.1))

  -- a pending command is neither replaced nor lost
  pub pending_kept : is_pending g.application ≡ true → (answered g m).gate.application ≡ g.application
  pending_kept pending =
      split (sends g m)
      (λ send. neither (sym (free_to_send g m.body (sent_accepted send)).0 ∙ pending))
      (λ no. application_after ∙ rw no refl)

  module _ (so_far : unrefused_so_far m ≡ true) where
    abbrev first : (sum_right m ≡ true) × (not (ltb most_data (length m.body)) ≡ true)
    first = both (sum_right m) (not (ltb most_data (length m.body))) so_far

    -- what its command's service makes of it
    pub as_served : (c : ℕ) → m.command ≡ c → answered g m ≡ served g (service_of c) m.body
    as_served c is =
        answered_served g m first.0 (not-true (ltb most_data (length m.body)) first.1) ∙ ap (λ (d : ℕ). served g (service_of d) m.body) is

  module _ (pending : is_pending g.application ≡ true) (so_far : unrefused_so_far m ≡ true) where
    pending_sent : m.command ≡ 0x10 → answered g m ≡ says g busy []
    unfolding service_of served
    pending_sent is = as_served so_far 0x10 is ∙ rw pending refl

    pending_asked : m.command ≡ 0xC6 → answered g m ≡ says g done (0xFE ∷ [])
    unfolding service_of served
    pending_asked is = as_served so_far 0xC6 is ∙ ap (λ (r : ℕ). says g done (r ∷ [])) (pending_byte g.application pending)

pub while_pending : (g : Gate) → is_pending g.application ≡ true → WhilePending g
while_pending g pending =
    record {
      kept = λ m. pending_kept g m pending;
      sent = λ m is so_far. pending_sent g m pending so_far is;
      asked = λ m is so_far. pending_asked g m pending so_far is;
    }
