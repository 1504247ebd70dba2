-- Bytes at which the receiver only counts, or does nothing: a walk passes over a run of them.
use mathlib.Core.Path.{◌≡◌, refl, sym, ap, ◌∙◌}
use mathlib.Core.List.{List, [], ◌∷◌, ◌++◌}
use Prim.Native.Nat.{ℕ, suc, ◌+◌, ◌%◌, ◌<◌, ◌≤◌}
use native.Mathlib.Nat.{add-zero}
use native.Mathlib.Numerals.{add-one}
use native.Mathlib.Omega.{arith}
use borrow.Author.Tests.{ne_eqb, lt-ltb}
use lib.ListN.{length, drop, set}
use lib.Seq.{sets}
use Rattle.document.specs.Numbers.{answer_room}
use Rattle.document.specs.Sum.{total}
use Rattle.line_receiver.specs.declared.Receiver.{Receiver}
use Rattle.line_receiver.specs.declared.Reaction.{Reaction}
use Rattle.line_receiver.specs.declared.Event.TheVariants.{Nothing, Keep}
use Rattle.line_receiver.specs.Bounds.{idle, data_next}
use Rattle.line_receiver.specs.Step.{stepped, after_byte, byte_event}
use Rattle.state_parts.specs.State.{Target}
use Rattle.state_byte.specs.Turn.{silent, keeping, with_receiver}
use Rattle.state_byte.specs.Walk.{Walk, byte_turn, room, walked}
use Rattle.state_byte.specs.Quiet.{passed_receiver, passed_target}
use Rattle.state_byte.proofs.TurnLaws.{by_event}
use Rattle.state_byte.proofs.Walks.{walked_on, heard_only, silent_onward}

-- no byte of these is a 0x2B
abbrev pub NoPlus : List ℕ → Type 0
NoPlus [] = Unit {0}
NoPlus (b ∷ bs) = (b ≡ 0x2B → ⊥) × NoPlus bs

-- ---- outside a message

module _ (r : Receiver) (calm : r.waiting ≡ 0) (outside : r.phase ≡ idle) where
  idle_step : (b : ℕ) → (b ≡ 0x2B → ⊥) → stepped r b ≡ record { next = r; event = Nothing }
  unfolding stepped after_byte byte_event
  idle_step b other = rw (ne_eqb b 0x2B other, calm, outside) refl

module _ (w : Walk) (long : answer_room ≤ room w) (calm : w.next.receiver.waiting ≡ 0) (outside : w.next.receiver.phase ≡ idle) where
  idle_byte : (b : ℕ) → (b ≡ 0x2B → ⊥) → byte_turn w b ≡ silent w.next w.memory (drop w.written w.buffer)
  idle_byte b other =
      let step = idle_step w.next.receiver calm outside b other in
      by_event w.next b w.memory (drop w.written w.buffer) Nothing (ap (λ (s : Reaction). s.event) step)
      ∙ (λ i. silent (with_receiver w.next (step i).next) w.memory (drop w.written w.buffer))

-- a run of literals outside a message
pub idle_passed : (bs rest : List ℕ) (w : Walk) → answer_room ≤ room w → w.next.receiver.waiting ≡ 0 → w.next.receiver.phase ≡ idle → NoPlus bs
    → walked w (bs ++ rest) ≡ walked (heard_only w (length bs) w.next) rest
idle_passed [] rest w long calm outside none =
    λ i. walked (record { taken = sym (add-zero w.taken) i; written = w.written; next = w.next; memory = w.memory; buffer = w.buffer }) rest
idle_passed (b ∷ bs) rest w long calm outside none =
    walked_on w b (bs ++ rest) long _ (idle_byte w long calm outside b none.0)
    ∙ (λ i. walked (silent_onward w w.next i) (bs ++ rest))
    ∙ idle_passed bs rest (heard_only w 1 w.next) long calm outside none.1
    ∙ (λ i. walked (record { taken = counted i; written = w.written; next = w.next; memory = w.memory; buffer = w.buffer }) rest)
  where
    counted : w.taken + 1 + length bs ≡ w.taken + suc (length bs)
    counted = omega arith

-- ---- inside a message's data

module _ (r : Receiver) (calm : r.waiting ≡ 0) (inside : r.phase ≡ data_next) (b : ℕ) (other : b ≡ 0x2B → ⊥) (more : r.have + 1 < r.length) (kept : r.have < 64) where
  data_step : stepped r b ≡ record { next = passed_receiver r (b ∷ []); event = Keep r.have b }
  unfolding stepped after_byte byte_event
  data_step =
      let first : r.have < r.length = omega (arith, more) in
      rw (ne_eqb b 0x2B other, calm, inside, lt-ltb r.have r.length first, lt-ltb (r.have + 1) r.length more, lt-ltb r.have 64 kept)
      (λ i. record { next = record { waiting = 0; phase = data_next; command = r.command; length = r.length; have = r.have + 1; sum = summed i }; event = Keep r.have b })
    where
      summed : (r.sum + b) % 256 ≡ (r.sum + total (b ∷ [])) % 256
      summed = omega arith

data_byte : (w : Walk) → w.next.receiver.waiting ≡ 0 → w.next.receiver.phase ≡ data_next → (b : ℕ) → (b ≡ 0x2B → ⊥)
    → w.next.receiver.have + 1 < w.next.receiver.length → w.next.receiver.have < 64
    → byte_turn w b ≡ silent (passed_target w.next (b ∷ [])) w.memory (drop w.written w.buffer)
data_byte w calm inside b other more kept =
    let step = data_step w.next.receiver calm inside b other more kept in
    by_event w.next b w.memory (drop w.written w.buffer) (Keep w.next.receiver.have b) (ap (λ (s : Reaction). s.event) step)
    ∙ (λ i. silent (keeping (with_receiver w.next (step i).next) w.next.receiver.have b) w.memory (drop w.written w.buffer))

-- one byte, then those behind it
passed_again : (t : Target) (b : ℕ) (bs : List ℕ) → passed_target (passed_target t (b ∷ [])) bs ≡ passed_target t (b ∷ bs)
passed_again t b bs i =
    record {
      receiver =
          record {
            waiting = 0;
            phase = data_next;
            command = t.receiver.command;
            length = t.receiver.length;
            have = placed i;
            sum = summed i;
          };
      body = sets (set t.body t.receiver.have b) (add-one t.receiver.have i) bs;
      instruments = t.instruments;
    }
  where
    placed : t.receiver.have + 1 + length bs ≡ t.receiver.have + suc (length bs)
    placed = omega arith

    summed : ((t.receiver.sum + total (b ∷ [])) % 256 + total bs) % 256 ≡ (t.receiver.sum + total (b ∷ bs)) % 256
    summed = omega arith

-- a run of data bytes, none of which is the last that is kept
pub data_passed : (bs rest : List ℕ) (w : Walk) → answer_room ≤ room w → w.next.receiver.waiting ≡ 0 → w.next.receiver.phase ≡ data_next
    → w.next.receiver.sum < 256 → NoPlus bs → w.next.receiver.have + length bs < w.next.receiver.length → w.next.receiver.have + length bs ≤ 63
    → walked w (bs ++ rest) ≡ walked (heard_only w (length bs) (passed_target w.next bs)) rest
data_passed [] rest w long calm inside small none more kept =
    let t = w.next in
    let sum : t.receiver.sum ≡ (t.receiver.sum + 0) % 256 = omega (arith, small) in
    λ i. walked
    (record {
      taken = sym (add-zero w.taken) i;
      written = w.written;
      next =
          record {
            receiver =
                record {
                  waiting = calm i;
                  phase = inside i;
                  command = t.receiver.command;
                  length = t.receiver.length;
                  have = sym (add-zero t.receiver.have) i;
                  sum = sum i;
                };
            body = t.body;
            instruments = t.instruments;
          };
      memory = w.memory;
      buffer = w.buffer;
    })
    rest
data_passed (b ∷ bs) rest w long calm inside small none more kept =
    walked_on w b (bs ++ rest) long _ (data_byte w calm inside b none.0 (omega (arith, more)) (omega (arith, kept)))
    ∙ (λ i. walked (silent_onward w (passed_target w.next (b ∷ [])) i) (bs ++ rest))
    ∙ data_passed bs rest (heard_only w 1 (passed_target w.next (b ∷ []))) long refl refl (omega arith) none.1 (omega (arith, more)) (omega (arith, kept))
    ∙ (λ i. walked (record { taken = counted i; written = w.written; next = passed_again w.next b bs i; memory = w.memory; buffer = w.buffer }) rest)
  where
    counted : w.taken + 1 + length bs ≡ w.taken + suc (length bs)
    counted = omega arith
