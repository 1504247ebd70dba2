-- What the block holds once a byte is heard, and once it is answered; and the call, refused and taken.
use mathlib.Core.Path.{◌≡◌, refl, sym, ap, ◌∙◌}
use mathlib.Core.List.{List}
use Prim.Native.Nat.{ℕ, ◌+◌, ◌<◌, ◌≤◌}
use borrow.Author.Tests.{eq-eqb, ne_eqb}
use lib.ListN.{length, get_or, set}
use lib.Seq.{sets}
use Rattle.document.specs.Numbers.{most_data, taken}
use Rattle.line_receiver.specs.declared.Reaction.{Reaction}
use Rattle.line_receiver.specs.declared.Event.{Event}
use Rattle.line_receiver.specs.declared.Event.TheVariants.{Nothing, Keep, Whole}
use Rattle.line_receiver.specs.Step.{stepped}
use Rattle.line_receiver.proofs.Places.{kept_in_body}
use Rattle.state_byte.specs.Turn.{with_receiver, kept_by, hearing, turn}
use Rattle.state_block.specs.Layout.{decoded_receiver, decoded, encoded_receiver, encoded}
use Rattle.state_block.specs.Places.{body_place, state_length}
use Rattle.state_block.proofs.Stored.{quiet_stored, keep_stored}
use Rattle.call_checks.specs.Promises.{byte_number}
use Rattle.call_byte.specs.Promises.{Turned, ByteTaken}

-- ---- a byte is heard

module _ (block : List ℕ) (b : ℕ) (long : state_length ≤ length block) (small : (i : ℕ) → get_or block i 0 < 256) (step : Reaction) (is-step : step ≡ stepped (decoded_receiver block) b) where
  pub event_of : (e : Event) → step.event ≡ e → (stepped (decoded_receiver block) b).event ≡ e
  event_of e h = ap (λ (s : Reaction). s.event) (sym is-step) ∙ h

  -- what is kept, by the event
  by_kept : (e : Event) → step.event ≡ e → sets block 0 (encoded (kept_by (with_receiver (decoded block) (stepped (decoded_receiver block) b).next) e)) ≡ sets block 0 (encoded (hearing (decoded block) b))
  by_kept e h = ap (λ (k : Event). sets block 0 (encoded (kept_by (with_receiver (decoded block) (stepped (decoded_receiver block) b).next) k))) (sym (event_of e h))

  headed : (after : List ℕ) → after ≡ sets block 0 (encoded_receiver step.next) → after ≡ sets block 0 (encoded (with_receiver (decoded block) (stepped (decoded_receiver block) b).next))
  headed after e =
      e
      ∙ ap (λ (s : Reaction). sets block 0 (encoded_receiver s.next)) is-step
      ∙ quiet_stored block long small (stepped (decoded_receiver block) b).next

  pub nothing_heard : (after : List ℕ) → step.event ≡ Nothing → after ≡ sets block 0 (encoded_receiver step.next) → after ≡ sets block 0 (encoded (hearing (decoded block) b))
  nothing_heard after h e = headed after e ∙ by_kept Nothing h

  pub whole_heard : (after : List ℕ) (c n s : ℕ) → step.event ≡ Whole c n s → after ≡ sets block 0 (encoded_receiver step.next) → after ≡ sets block 0 (encoded (hearing (decoded block) b))
  whole_heard after c n s h e = headed after e ∙ by_kept (Whole c n s) h

  pub place_in_body : (at byte : ℕ) → step.event ≡ Keep at byte → at < most_data
  place_in_body at byte h = (kept_in_body b at byte (decoded_receiver block) (event_of (Keep at byte) h)).0

  pub keep_heard : (after : List ℕ) (at byte : ℕ) → step.event ≡ Keep at byte → after ≡ set (sets block 0 (encoded_receiver step.next)) (body_place + at) byte
      → after ≡ sets block 0 (encoded (hearing (decoded block) b))
  keep_heard after at byte h e =
      e
      ∙ ap (λ (s : Reaction). set (sets block 0 (encoded_receiver s.next)) (body_place + at) byte) is-step
      ∙ keep_stored block long small (stepped (decoded_receiver block) b).next at byte (place_in_body at byte h)
      ∙ by_kept (Keep at byte) h

-- ---- the call

module _ (block : List ℕ) (b : ℕ) (memory buffer : List ℕ) where
  pub byte_refused : (k : ℕ) → k ≡ byte_number block memory buffer → (k ≡ taken → ⊥)
      → ByteTaken block b memory buffer (record { refusal = k; length = 0 }) block memory buffer
  byte_refused k e some =
      let refused = ne_eqb (byte_number block memory buffer) taken (λ z. some (e ∙ z)) in
      record {
        result = rw refused (λ i. record { refusal = e i; length = 0 });
        state = rw refused refl;
        memory_left = rw refused refl;
        buffer_told = rw refused refl;
      }

  pub byte_taken : (written : ℕ) (after left told : List ℕ) → byte_number block memory buffer ≡ taken
      → Turned (turn (decoded block) b memory buffer) block written after left told
      → ByteTaken block b memory buffer (record { refusal = taken; length = written }) after left told
  byte_taken written after left told fine turned =
      let none = eq-eqb (byte_number block memory buffer) taken fine in
      record {
        result = rw none (λ i. record { refusal = taken; length = turned.length i });
        state = rw none turned.state;
        memory_left = rw none turned.memory_left;
        buffer_told = rw none turned.buffer_told;
      }
