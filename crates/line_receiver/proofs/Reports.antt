-- The receiver with the body beside it reports exactly the messages in the bytes since reset, each at its last byte:
-- it is one of the readers of `Rattle.line_wire.proofs.Machine`.
use Prim.Native.Nat.{ℕ}
use mathlib.Core.Path.{◌≡◌, refl, sym, ◌∙◌, ap}
use mathlib.Core.List.{List, [], ◌∷◌, ◌++◌, map}
use mathlib.Core.Bool.{Bool, true, false}
use native.Mathlib.Omega.{arith}
use borrow.Author.Tests.{leb-true, eqb-true, eqb-false, eq-eqb, ne_eqb}
use lib.Dec.{leb, eqb}
use lib.ListN.{length}
use Rattle.document.specs.Message.{Message, whole_message, finished_by}
use Rattle.document.proofs.Cases.{split}
use Rattle.line_wire.proofs.Pairing.{waits_behind}
use Rattle.line_wire.proofs.Machine.{Reads, within_after, reported_at_lem, found_map, finished_found}
use Rattle.line_receiver.specs.declared.Receiver.{Receiver}
use Rattle.line_receiver.specs.Bounds.{fresh, sound}
use Rattle.line_receiver.specs.Step.{plus, opened, with_waiting, after_byte, byte_event, stepped}
use Rattle.line_receiver.specs.Report.{HeldMessage, held, Beside, on_byte, reported_at, since_reset, reporting}
use Rattle.line_receiver.proofs.Sound.{nothing, literal_taken, waiting_of, waiting_sound, plus_is, step_sound, reset_sound, by_phase, literal_data, literal_sum, literal_length, literal_outside}
use Rattle.line_receiver.proofs.Body.{body_length_lem}
use Rattle.line_receiver.proofs.Owed.{owes, owes_none, owes-literal, owes_opened}

-- ---- the pairing: a byte is a literal where it is a 0x2B and one waits, or neither
literal_flag : (b waiting : ℕ) → leb waiting 1 ≡ true → eqb waiting 1 ≡ eqb b 0x2B → eqb (plus b) waiting ≡ true
literal_flag b waiting ok same =
    split (eqb b 0x2B)
    (λ two. rw two (eq-eqb 1 waiting (sym (eqb-true waiting 1 (same ∙ two)))))
    (λ other. rw other
    (eq-eqb 0 waiting (omega (arith, leb-true waiting 1 ok, eqb-false waiting 1 (same ∙ other)))))

start_flag : (b waiting : ℕ) → eqb waiting 1 ≡ true → eqb b 0x2B ≡ false → eqb (plus b) waiting ≡ false
start_flag b waiting waits other = rw (other, eqb-true waiting 1 waits) refl

first_flag : (waiting : ℕ) → eqb waiting 1 ≡ false → eqb 1 waiting ≡ false
first_flag waiting none = ne_eqb 1 waiting (λ e. eqb-false waiting 1 none (sym e))

module _ (r : Receiver) (bounds : sound r ≡ true) where
  literal_step : (b : ℕ) → eqb r.waiting 1 ≡ eqb b 0x2B → stepped r b ≡ literal_taken (with_waiting 0 r) b
  unfolding stepped after_byte byte_event literal_taken
  literal_step b same = rw (literal_flag b r.waiting (waiting_of r bounds) same) refl

  start_step : (b : ℕ) → eqb r.waiting 1 ≡ true → eqb b 0x2B ≡ false → stepped r b ≡ nothing (opened b)
  unfolding stepped after_byte byte_event literal_taken
  start_step b waits other =
      rw (start_flag b r.waiting waits other, plus_is b, other) refl

  first_step : eqb r.waiting 1 ≡ false → stepped r 0x2B ≡ nothing (with_waiting 1 r)
  unfolding stepped after_byte byte_event literal_taken
  first_step none = rw (first_flag r.waiting none) refl

-- a literal leaves the flag as it is
literal_waiting : (r : Receiver) (l : ℕ) → (literal_taken r l).next.waiting ≡ r.waiting
literal_waiting r l =
    by_phase r.phase
    (λ e. rw (literal_data r l e) refl)
    (λ e. rw (literal_sum r l e) refl)
    (λ e. rw (literal_length r l e) refl)
    (λ d s e. rw (literal_outside r l d s e) refl)

-- ---- the reader
abbrev within : Beside → Type 0
within s = (sound s.receiver ≡ true) × (length s.body ≡ 64)

abbrev waits : Beside → Bool
waits s = eqb s.receiver.waiting 1

abbrev owed : Beside → List ℕ → List HeldMessage
owed s ls = owes s.receiver s.body ls

abbrev whole : List ℕ → List HeldMessage
whole ls = map held (whole_message ls)

keeps : (s : Beside) (b : ℕ) → within s → within (on_byte s b)
keeps s b ok =
    (step_sound s.receiver b ok.0, body_length_lem (stepped s.receiver b).event s.body ∙ ok.1)

pairs : (s : Beside) (b : ℕ) → within s → waits (on_byte s b) ≡ waits_behind (waits s) b
pairs s b ok =
    split (waits s)
    (λ w. split (eqb b 0x2B)
    (λ two. rw (
      literal_step s.receiver ok.0 b (w ∙ sym two),
      literal_waiting (with_waiting 0 s.receiver) b,
      w,
      two,
    ) refl)
    (λ other. rw (start_step s.receiver ok.0 b w other, other) refl))
    (λ w. split (eqb b 0x2B)
    (λ two. rw (eqb-true b 0x2B two, first_step s.receiver ok.0 w, w) refl)
    (λ other. rw (
      literal_step s.receiver ok.0 b (w ∙ sym other),
      literal_waiting (with_waiting 0 s.receiver) b,
      other,
    ) refl))

first : (s : Beside) (ls : List ℕ) → within s → waits s ≡ false →
    (reported_at s 0x2B ≡ []) × (owed (on_byte s 0x2B) ls ≡ owed s ls)
first s ls ok none =
    (rw (first_step s.receiver ok.0 none) refl, rw (first_step s.receiver ok.0 none) refl)

opens : (s : Beside) (b : ℕ) (ls : List ℕ) → within s → waits s ≡ true → eqb b 0x2B ≡ false →
    (reported_at s b ≡ []) × (owed (on_byte s b) ls ≡ whole (b ∷ ls))
opens s b ls ok w other = (
  rw (start_step s.receiver ok.0 b w other) refl,
  rw (start_step s.receiver ok.0 b w other) (owes_opened b s.body ls ok.1),
)

takes : (s : Beside) (b : ℕ) (ls : List ℕ) → within s → waits s ≡ eqb b 0x2B →
    owed s (b ∷ ls) ≡ reported_at s b ++ owed (on_byte s b) ls
takes s b ls ok same =
    rw (literal_step s.receiver ok.0 b same)
    (owes-literal (with_waiting 0 s.receiver) (waiting_sound s.receiver ok.0 0 refl) s.body ok.1 b ls)

reads : Reads whole within waits on_byte reported_at owed
reads =
    record {
      keeps = keeps;
      pairs = pairs;
      none = λ s ok. owes_none s.receiver s.body;
      first = first;
      opens = opens;
      takes = takes;
    }

-- ---- over any bytes since reset, whatever the body held
module _ (body : List ℕ) (full : length body ≡ 64) where
  pub stays_sound : (bs : List ℕ) → sound (since_reset body bs).receiver ≡ true
  stays_sound bs = (within_after reads bs _ (reset_sound, full)).0

  -- The receiver reports what the definition finds, each message at its last byte, and nothing else.
  pub reports : (bs : List ℕ) (b : ℕ) → reporting body bs b ≡ map held (finished_by bs b)
  reports bs b =
      reported_at_lem reads (record { receiver = fresh; body = body }) (reset_sound, full) refl (λ ls. refl) bs b
      ∙ found_map held whole_message bs b
      ∙ ap (λ (ms : List Message). map held ms) (sym (finished_found bs b))
