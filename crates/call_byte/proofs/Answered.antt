-- A byte that is heard and, where it ends a message, answered, has taken its turn.
use mathlib.Core.Path.{◌≡◌, refl, sym, ap, ◌∙◌}
use mathlib.Core.List.{List}
use Prim.Native.Nat.{ℕ, ◌<◌, ◌≤◌}
use native.Mathlib.Omega.{arith}
use lib.ListN.{length, get_or}
use lib.Seq.{sets}
use Rattle.document.specs.Numbers.{answer_room}
use Rattle.line_receiver.specs.declared.Event.{Event}
use Rattle.line_receiver.specs.declared.Event.TheVariants.{Nothing, Keep, Whole}
use Rattle.line_receiver.specs.Report.{HeldMessage}
use Rattle.line_receiver.specs.Step.{stepped}
use Rattle.scope_state.specs.State as scope
use Rattle.state_parts.specs.State.{Target, Instruments}
use Rattle.state_parts.specs.Widths.{TargetFits}
use Rattle.state_parts.specs.Within.{Within}
use Rattle.state_parts.proofs.Keeps.{within_fits}
use Rattle.state_byte.specs.AnsweredHeld.{instruments_held}
use Rattle.state_byte.specs.Turn.{Turn, hearing, turn}
use Rattle.state_byte.proofs.Keeps.{byte_keeps}
use Rattle.state_byte.proofs.TurnLaws.{by_event}
use Rattle.serve_message.specs.declared.Whole.{Whole as Message}
use Rattle.serve_message.specs.Held.{held_of}
use Rattle.serve_message.specs.Responds.{Lent, Responds}
use Rattle.state_block.specs.Layout.{decoded_receiver, decoded_body, decoded_instruments, decoded, encoded}
use Rattle.state_block.specs.Places.{state_length}
use Rattle.state_block.proofs.Back.{stored_decoded}
use Rattle.state_block.proofs.Stored.{instruments_stored}
use Rattle.std.specs.Prelude.{Option, None, Some}
use Rattle.call_byte.specs.Heard.{heard_of, answered_by, Hears, is_framed}
use Rattle.call_byte.specs.Promises.{Turned}
use Rattle.call_byte.proofs.Stores.{target_over}
use Rattle.call_byte.proofs.Framed.{heard_framed, hearing_fits, hearing_instruments}

-- the turn of a byte is what it is answered with, once it is heard
heard_turn : (t : Target) (b : ℕ) (memory buffer : List ℕ) → answered_by (hearing t b) (heard_of (stepped t.receiver b).event) memory buffer ≡ turn t b memory buffer
heard_turn t b memory buffer = by (stepped t.receiver b).event refl
  where
    by : (e : Event) → (stepped t.receiver b).event ≡ e → answered_by (hearing t b) (heard_of (stepped t.receiver b).event) memory buffer ≡ turn t b memory buffer
    by Nothing h = rw h (sym (by_event t b memory buffer Nothing h))
    by (Keep at v) h = rw h (sym (by_event t b memory buffer (Keep at v) h))
    by (Whole c n s) h = rw h (sym (by_event t b memory buffer (Whole c n s) h))

module _ (block : List ℕ) (b : ℕ) (memory : List ℕ) (long : state_length ≤ length block) (small : (i : ℕ) → get_or block i 0 < 256) (b-small : b < 256) (within : Within (decoded block) memory)
    (heard : Option Message) (between : List ℕ) (same : length between ≡ length block) (hears : Hears block b heard between) where
  fits : TargetFits (hearing (decoded block) b)
  fits = hearing_fits (decoded block) b (within_fits (decoded block) memory within)

  decoded_heard : decoded between ≡ hearing (decoded block) b
  decoded_heard = ap decoded hears.state ∙ stored_decoded block (hearing (decoded block) b) long fits

  -- what the turn is, by what was heard
  turn_of : (h : Option Message) → heard ≡ h → (buffer : List ℕ) → answered_by (decoded between) h memory buffer ≡ turn (decoded block) b memory buffer
  turn_of h e buffer = (λ i. answered_by (decoded_heard i) ((sym e ∙ hears.brought) i) memory buffer) ∙ heard_turn (decoded block) b memory buffer

  pub quiet_turned : heard ≡ None → (buffer : List ℕ) → Turned (turn (decoded block) b memory buffer) block 0 between memory buffer
  quiet_turned e buffer =
      let whole = turn_of None e buffer in
      record {
        length = ap (λ (u : Turn). u.length) whole;
        state = hears.state ∙ ap (λ (t : Target). sets block 0 (encoded t)) (sym decoded_heard) ∙ ap (λ (u : Turn). sets block 0 (encoded u.next)) whole;
        memory_left = ap (λ (u : Turn). u.memory) whole;
        buffer_told = ap (λ (u : Turn). u.buffer) whole;
      }

  module _ (message : Message) (e : heard ≡ Some message) where
    length_small : (decoded_receiver block).length ≤ 255
    unfolding decoded_receiver
    length_small = omega (arith, small 3)

    -- all that answering asks for
    pub answer_lent : (out : List ℕ) → answer_room ≤ length out → Lent message between memory out
    answer_lent out room =
        record {
          fits = ap is_framed (sym e ∙ hears.brought) ∙ heard_framed (decoded_receiver block) b within.link_part.receiver length_small;
          long = omega (arith, long, same);
          scope_sound =
              ap (λ (t : Target). scope.sound t.instruments.scope) decoded_heard
              ∙ ap (λ (i : Instruments). scope.sound i.scope) (hearing_instruments (decoded block) b)
              ∙ within.scope_part.sound;
          memory_whole = within.memory_part.size;
          room = room;
        }

    abbrev held : HeldMessage
    held = held_of message (decoded_body between)

    pub message_turned : (buffer after left sent : List ℕ) (written : ℕ) → ((i : ℕ) → get_or between i 0 < 256)
        → Responds message between memory buffer written sent after left
        → Turned (turn (decoded block) b memory buffer) block written after left sent
    message_turned buffer after left sent written between-small done =
        let whole = turn_of (Some message) e buffer in
        let u = turn (decoded block) b memory buffer in
        let next_fits = within_fits u.next u.memory (byte_keeps (decoded block) memory buffer within b b-small) in
        let behind : after ≡ sets between 0 (encoded (turn (decoded block) b memory buffer).next) =
        done.kept
        ∙ instruments_stored between (omega (arith, long, same)) between-small (instruments_held (decoded_instruments between) held)
        ∙ ap (λ (u : Turn). sets between 0 (encoded u.next)) whole in
        record {
          length = done.told.length ∙ ap (λ (u : Turn). u.length) whole;
          state = behind ∙ ap (λ (l : List ℕ). sets l 0 (encoded u.next)) hears.state ∙ target_over block (hearing (decoded block) b) u.next long fits next_fits;
          memory_left = done.memory ∙ ap (λ (u : Turn). u.memory) whole;
          buffer_told = done.told.buffer ∙ ap (λ (u : Turn). u.buffer) whole;
        }
