-- A turn of the loop takes a walk further, to the same end: what is passed over, and a byte behind it.
use mathlib.Core.Path.{◌≡◌, refl, sym, ap, subst, ◌∙◌}
use mathlib.Core.List.{List, ◌∷◌, ◌++◌, append-nil}
use Prim.Native.Nat.{ℕ, ◌+◌, ◌-◌, ◌<◌, ◌≤◌}
use native.Mathlib.Nat.{add-zero}
use native.Mathlib.Numerals.{add-one}
use native.Mathlib.Omega.{arith}
use lib.ListN.{length, get_or, take, drop, length-drop, drop_of_length-le, take-append-drop}
use lib.Seq.{sets, drop-cons, drop-drop, take_all}
use Rattle.document.specs.Numbers.{answer_room}
use Rattle.document.specs.Bytes.{AllBytes}
use Rattle.state_parts.specs.State.{Target}
use Rattle.state_parts.specs.Within.{Within}
use Rattle.state_parts.proofs.ByteLaws.{all_drop}
use Rattle.state_parts.proofs.Keeps.{within_fits}
use Rattle.state_byte.specs.Turn.{Turn, turn}
use Rattle.state_byte.specs.Walk.{walked}
use Rattle.state_byte.specs.Quiet.{passed_over, passed_by}
use Rattle.state_byte.proofs.Fits.{turn_fits}
use Rattle.state_byte.proofs.Keeps.{byte_keeps}
use Rattle.state_byte.proofs.Walks.{walked_on}
use Rattle.state_block.specs.Places.{state_length}
use Rattle.state_block.specs.Layout.{decoded_receiver, decoded, encoded}
use Rattle.state_block.proofs.Back.{stored_decoded}
use Rattle.call_quiet.specs.Passed.{Passed}
use Rattle.call_quiet.proofs.Passed.{over_inside, passed_walk, passed_keeps}
use Rattle.call_byte.specs.Promises.{Turned}
use Rattle.call_byte.proofs.Stores.{target_over}
use Rattle.call_block.specs.Going.{walk_at, TookNext}

-- what stands behind a place is lent whole, and nothing behind it is left
pub part_whole : (l : List ℕ) (at : ℕ) → take (length l - at) (drop at l) ≡ drop at l
part_whole l at = take_all (length l - at) (drop at l) (omega (arith, length-drop at l))

pub nothing_behind : (l told : List ℕ) (at : ℕ) → take at l ++ (told ++ drop (length l - at) (drop at l)) ≡ take at l ++ told
nothing_behind l told at =
    let short : length (drop at l) ≤ length l - at = omega (arith, length-drop at l) in
    ap (λ (k : List ℕ). take at l ++ (told ++ k)) (drop_of_length-le (drop at l) short) ∙ ap (λ (k : List ℕ). take at l ++ k) (append-nil told)

module _ (bytes : List ℕ) (from at : ℕ) (block memory buffer : List ℕ) (long : state_length ≤ length block) (small : (i : ℕ) → get_or block i 0 < 256) (all : AllBytes bytes) (within : Within (decoded block) memory) (some : from < length bytes) (room : at + answer_room ≤ length buffer) where
  abbrev rest : List ℕ
  rest = drop from bytes

  abbrev passed : Target
  passed = passed_by (decoded block) rest

  sum_small : (decoded block).receiver.sum < 256
  unfolding decoded_receiver
  sum_small = small 5

  passed_within : Within (passed_by (decoded block) (drop from bytes)) memory
  passed_within = passed_keeps (decoded block) memory rest (all_drop from bytes all) sum_small within

  module _ (next : ℕ) (between : List ℕ) (quiet : Passed block bytes from next between) where
    pub next_inside : next ≤ length bytes
    next_inside = omega (arith, quiet.place, some, over_inside (decoded block) rest, length-drop from bytes)

    decoded_passed : decoded between ≡ passed_by (decoded block) (drop from bytes)
    decoded_passed = ap decoded quiet.state ∙ stored_decoded block passed long (within_fits passed memory passed_within)

    pub between_within : Within (decoded between) memory
    between_within = subst (λ (t : Target). Within t memory) (sym decoded_passed) passed_within

    passes : walked (walk_at from at block memory buffer) (drop from bytes) ≡ walked (walk_at next at between memory buffer) (drop next bytes)
    passes =
        let behind : drop (passed_over (decoded block) rest) rest ≡ drop next bytes = drop-drop _ from bytes ∙ ap (λ (n : ℕ). drop n bytes) (sym quiet.place) in
        passed_walk (walk_at from at block memory buffer) rest (omega (arith, room)) sum_small
        ∙ (λ i. walked (record { taken = sym quiet.place i; written = at; next = sym decoded_passed i; memory = memory; buffer = buffer }) (behind i))

    pub all_passed : next ≡ length bytes → TookNext bytes from at (record { taken = next; written = at }) block memory buffer between memory buffer
    all_passed end =
        record {
          goes = passes;
          state = quiet.state ∙ ap (λ (t : Target). sets block 0 (encoded t)) (sym decoded_passed);
          within = between_within;
          onward = omega (arith, some, end);
          inside = next_inside;
          room = omega (arith, room);
        }

    -- one byte more
    module _ (more : next < length bytes) (byte_small : get_or bytes next 0 < 256) (written : ℕ) (after left told : List ℕ)
        (done : Turned (turn (decoded between) (get_or bytes next 0) memory (drop at buffer)) between written after left told) where
      abbrev byte : ℕ
      byte = get_or bytes next 0

      abbrev u : Turn
      u = turn (decoded between) byte memory (drop at buffer)

      next_within : Within (turn (decoded between) (get_or bytes next 0) memory (drop at buffer)).next (turn (decoded between) (get_or bytes next 0) memory (drop at buffer)).memory
      next_within = byte_keeps (decoded between) memory (drop at buffer) between_within byte byte_small

      over : after ≡ sets block 0 (encoded (turn (decoded between) (get_or bytes next 0) memory (drop at buffer)).next)
      over =
          done.state
          ∙ ap (λ (l : List ℕ). sets l 0 (encoded u.next)) quiet.state
          ∙ target_over block passed u.next long (within_fits passed memory passed_within) (within_fits u.next u.memory next_within)

      decoded_next : decoded after ≡ (turn (decoded between) (get_or bytes next 0) memory (drop at buffer)).next
      decoded_next = ap decoded (over) ∙ stored_decoded block u.next long (within_fits u.next u.memory next_within)

      takes : walked (walk_at next at between memory buffer) (drop next bytes) ≡ walked (walk_at (next + 1) (at + written) after left (take at buffer ++ told)) (drop (next + 1) bytes)
      takes =
          let first : drop next bytes ≡ get_or bytes next 0 ∷ drop (next + 1) bytes = rw (add-one next, drop-cons bytes next 0 more) refl in
          ap (walked (walk_at next at between memory buffer)) first
          ∙ walked_on (walk_at next at between memory buffer) byte (drop (next + 1) bytes) (omega (arith, room)) u refl
          ∙ (λ i. walked (record { taken = next + 1; written = at + sym done.length i; next = sym decoded_next i; memory = sym done.memory_left i; buffer = take at buffer ++ sym done.buffer_told i }) (drop (next + 1) bytes))

      pub one_more : TookNext bytes from at (record { taken = next + 1; written = at + written }) block memory buffer after left (take at buffer ++ told)
      one_more =
          record {
            goes = passes ∙ takes;
            state = over ∙ ap (λ (t : Target). sets block 0 (encoded t)) (sym decoded_next);
            within = subst (λ (m : List ℕ). Within (decoded after) m) (sym done.memory_left) (subst (λ (t : Target). Within t u.memory) (sym decoded_next) next_within);
            onward = omega (arith, quiet.place);
            inside = omega (arith, more);
            room = omega (arith, room, done.length, turn_fits (decoded between) byte memory (drop at buffer));
          }
