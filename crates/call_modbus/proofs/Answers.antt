-- The call's promise where nothing is refused: silent, or answered.
use mathlib.Core.Path.{◌≡◌, ap, ◌∙◌}
use mathlib.Core.Bool.{true, false}
use mathlib.Core.List.{List, ◌∷◌}
use Prim.Native.Nat.{ℕ, ◌+◌, ◌<◌, ◌≤◌}
use native.Mathlib.Omega.{arith}
use borrow.Author.Tests.{eq-eqb, eqb-true, ltb-false, leb-true}
use lib.Dec.{eqb, ltb, leb}
use lib.ListN.{length, take}
use lib.Seq.{sets}
use Rattle.document.specs.Numbers.{taken}
use Rattle.document.specs.Areas.{memory_end}
use Rattle.document.specs.Values.{little_endian}
use Rattle.document.specs.CheckSum.{check_sum, with_check_sum}
use Rattle.document.specs.Frames.{station_in, is_station, is_silenced}
use Rattle.document.specs.Modbus.{function_in, exception_to, answer_to, modbus_answer, modbus_memory, modbus_room, modbus_refusal}
use Rattle.document.proofs.Cases.{split, both}
use Rattle.modbus_frames.proofs.Silenced.{heard}
use Rattle.call_modbus.specs.Responded.{Responded}
use Rattle.call_modbus.specs.Promises.{ModbusDone}
use Rattle.call_modbus.proofs.Sealed.{sealed, sealed_length}
use Rattle.call_modbus.proofs.Responses.{answer_short}

-- what is lent is right where nothing is refused, and the station is one
pub record Right (station : ℕ) (memory out : List ℕ) : Type 0 where
  pub memory-length : length memory ≡ memory_end
  pub room : modbus_room ≤ length out
  pub first : 0 < station
  pub last : station < 256

pub lent-right : (station : ℕ) (memory out : List ℕ) → modbus_refusal station memory out ≡ taken → Right station memory out
lent-right station memory out none =
    split (eqb (length memory) memory_end)
    (λ whole.
    split (ltb (length out) modbus_room) (λ short. let z : ⊥ = omega (arith, rw (whole, short) at none) in absurd z)
    (λ room.
    split (is_station station)
    (λ own.
    let bounds = both (leb 1 station) (leb station 247) own in
    record {
      memory-length = eqb-true (length memory) memory_end whole;
      room = ltb-false (length out) modbus_room room;
      first = leb-true 1 station bounds.0;
      last = omega (arith, leb-true station 247 bounds.1);
    })
    (λ other. let z : ⊥ = omega (arith, rw (whole, room, other) at none) in absurd z)))
    (λ other. let z : ⊥ = omega (arith, rw other at none) in absurd z)

module _ (station : ℕ) (frame memory out : List ℕ) where
  module _ (refusal : ℕ) (e : refusal ≡ modbus_refusal station memory out) (none : refusal ≡ taken) where
    pub silent : is_silenced station frame ≡ true → ModbusDone station frame memory out (record { refusal = taken; length = 0 }) memory out
    unfolding modbus_answer modbus_memory
    silent quiet =
        record {
          result = rw (← e, eq-eqb refusal taken none, quiet);
          memory_left = rw (← e, eq-eqb refusal taken none, quiet);
          buffer_told = rw (← e, eq-eqb refusal taken none, quiet);
        }

    pub answered : is_silenced station frame ≡ false → modbus_room ≤ length out → (n whole : ℕ) (left begun after : List ℕ) → Responded frame memory out n left begun
        → whole ≡ n + 2 → after ≡ sets begun n (little_endian 2 (check_sum (take n begun)))
        → ModbusDone station frame memory out (record { refusal = taken; length = whole }) left after
    unfolding modbus_answer modbus_memory
    answered loud room n whole left begun after r ew es =
        let x : ℕ = exception_to (function_in frame) frame memory in
        let own : station_in frame ≡ station = (heard station frame loud).own in
        let bytes : List ℕ = station_in frame ∷ answer_to x frame memory in
        let all : with_check_sum bytes ≡ with_check_sum (station ∷ answer_to x frame memory) =
        ap (λ (s : ℕ). with_check_sum (s ∷ answer_to x frame memory)) own
        in
        let count : whole ≡ length (with_check_sum (station ∷ answer_to x frame memory)) =
        ew ∙ ap (λ (k : ℕ). k + 2) r.answer.length ∙ sealed_length bytes ∙ ap length all
        in
        let told : after ≡ sets out 0 (with_check_sum (station ∷ answer_to x frame memory)) =
        es
        ∙ sealed bytes out begun n r.answer (omega (arith, r.answer.length, answer_short frame memory))
        ∙ ap (λ (l : List ℕ). sets out 0 l) all
        in
        record {
          result = rw (← e, eq-eqb refusal taken none, loud) (λ i. record { refusal = taken; length = count i });
          memory_left = rw (← e, eq-eqb refusal taken none, loud) r.memory_left;
          buffer_told = rw (← e, eq-eqb refusal taken none, loud) told;
        }
