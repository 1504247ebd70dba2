-- What only counts is passed over; behind it nothing is left, or one byte is taken.
use mathlib.Core.Path.{◌≡◌, sym, subst}
use mathlib.Core.List.{List, ◌++◌}
use Prim.Native.Nat.{ℕ, ◌+◌, ◌-◌, ◌<◌, ◌≤◌}
use native.Mathlib.Omega.{arith}
use lib.ListN.{length, get_or, take, drop, length-drop}
use Rattle.document.specs.Numbers.{answer_room}
use Rattle.document.specs.Bytes.{AllBytes}
use Rattle.document.proofs.Bytes.{all_of_bytes}
use Rattle.state_parts.specs.Within.{Within}
use Rattle.state_byte.specs.Turn.{turn}
use Rattle.state_byte.proofs.Fits.{turn_fits}
use Rattle.state_block.specs.Places.{state_length}
use Rattle.state_block.specs.Layout.{decoded}
use Rattle.call_quiet.specs.Passed.{Passed}
use Rattle.call_byte.specs.Promises.{Turned}
use Rattle.call_block.specs.Going.{TookNext}
use Rattle.call_block.proofs.TookNext.{part_whole, nothing_behind, next_inside, between_within, all_passed, one_more}
use Rattle.call_block.proofs.take_next.Goals as goal

-- ---- what is lent, and what is left behind the quiet bytes
module _ (state bytes memory answers : List ℕ) (from at : ℕ)
    (long : state_length ≤ length state) (known : Within (decoded state) memory) (some : from < length bytes) (room : at + answer_room ≤ length answers)
    (small : (i : ℕ) → get_or state i 0 < 256) (byte_small : (i : ℕ) → get_or bytes i 0 < 256)
    (next : ℕ) (between : List ℕ) (over : Passed state bytes from next between) where
  all : AllBytes bytes
  all = all_of_bytes bytes byte_small

  inside : next ≤ length bytes
  inside = next_inside bytes from at state memory answers long small all known some room next between over

  none_left : next ≡ length bytes → TookNext bytes from at (record { taken = next; written = at }) state memory answers between memory answers
  none_left end = all_passed bytes from at state memory answers long small all known some room next between over end

  within : Within (decoded between) memory
  within = between_within bytes from at state memory answers long small all known some room next between over

  -- ---- one more byte is taken
  module _ (more : next < length bytes) (n : ℕ) (after left sent : List ℕ)
      (turned : Turned (turn (decoded between) (get_or bytes next 0) memory (take (length answers - at) (drop at answers))) between n after left sent) where
    done : Turned (turn (decoded between) (get_or bytes next 0) memory (drop at answers)) between n after left sent
    done = subst (λ (l : List ℕ). Turned (turn (decoded between) (get_or bytes next 0) memory l) between n after left sent) (part_whole answers at) turned

    fits : at + n ≤ length answers
    fits = omega (arith, room, done.length, turn_fits (decoded between) (get_or bytes next 0) memory (drop at answers))

    answered : TookNext bytes from at (record { taken = next + 1; written = at + n }) state memory answers after left
        (take at answers ++ (sent ++ drop (length answers - at) (drop at answers)))
    answered =
        subst (λ (l : List ℕ). TookNext bytes from at (record { taken = next + 1; written = at + n }) state memory answers after left l)
        (sym (nothing_behind answers sent at))
        (one_more bytes from at state memory answers long small all known some room next between over more (byte_small next) n after left sent done)

pub returns-then-next-bytes : goal.returns-then-next-bytes
returns-then-next-bytes c =
    none_left c.args.state.now c.args.bytes.now c.args.memory.now c.args.answers.now c.args.so_far.taken c.args.so_far.written
    c.requires.0 c.requires.1 c.requires.2 c.requires.3 (λ i. (c.slice_known-1.given i).fits) (λ i. (c.shared_slice_known-1.given i).fits)
    c.pass_over-next.result c.pass_over-next.new.state c.pass_over-next.ensures c.if-next-bytes.true

pub bounds-bytes-next : goal.bounds-bytes-next
bounds-bytes-next c =
    let most = inside c.args.state.now c.args.bytes.now c.args.memory.now c.args.answers.now c.args.so_far.taken c.args.so_far.written
    c.requires.0 c.requires.1 c.requires.2 c.requires.3 (λ i. (c.slice_known-1.given i).fits) (λ i. (c.shared_slice_known-1.given i).fits)
    c.pass_over-next.result c.pass_over-next.new.state c.pass_over-next.ensures in
    omega (arith, most, c.if-next-bytes.false)

pub take-length-requires : goal.take-length-requires
take-length-requires c =
    let still = within c.args.state.now c.args.bytes.now c.args.memory.now c.args.answers.now c.args.so_far.taken c.args.so_far.written
    c.requires.0 c.requires.1 c.requires.2 c.requires.3 (λ i. (c.slice_known-1.given i).fits) (λ i. (c.shared_slice_known-1.given i).fits)
    c.pass_over-next.result c.pass_over-next.new.state c.pass_over-next.ensures in
    (omega (arith, c.requires.0, c.pass_over-next.auto.state), still, rw (part_whole c.args.answers.now c.args.so_far.written) (omega (arith, length-drop c.args.so_far.written c.args.answers.now, c.requires.3)))

pub overflow_add-result : goal.overflow_add-result
overflow_add-result c =
    let most = inside c.args.state.now c.args.bytes.now c.args.memory.now c.args.answers.now c.args.so_far.taken c.args.so_far.written
    c.requires.0 c.requires.1 c.requires.2 c.requires.3 (λ i. (c.slice_known-1.given i).fits) (λ i. (c.shared_slice_known-1.given i).fits)
    c.pass_over-next.result c.pass_over-next.new.state c.pass_over-next.ensures in
    record { fits = omega (arith, most, c.if-next-bytes.false) }

pub overflow_add-result-2 : goal.overflow_add-result-2
overflow_add-result-2 c =
    let most = inside c.args.state.now c.args.bytes.now c.args.memory.now c.args.answers.now c.args.so_far.taken c.args.so_far.written
    c.requires.0 c.requires.1 c.requires.2 c.requires.3 (λ i. (c.slice_known-1.given i).fits) (λ i. (c.shared_slice_known-1.given i).fits)
    c.pass_over-next.result c.pass_over-next.new.state c.pass_over-next.ensures in
    let last = fits c.args.state.now c.args.bytes.now c.args.memory.now c.args.answers.now c.args.so_far.taken c.args.so_far.written
    c.requires.0 c.requires.1 c.requires.2 c.requires.3 (λ i. (c.slice_known-1.given i).fits) (λ i. (c.shared_slice_known-1.given i).fits)
    c.pass_over-next.result c.pass_over-next.new.state c.pass_over-next.ensures
    (omega (arith, most, c.if-next-bytes.false)) c.take-length.result c.take-length.new.state c.take-length.new.memory c.take-length.new.answer c.take-length.ensures in
    record { fits = omega (arith, last) }

pub returns : goal.returns
returns c =
    let most = inside c.args.state.now c.args.bytes.now c.args.memory.now c.args.answers.now c.args.so_far.taken c.args.so_far.written
    c.requires.0 c.requires.1 c.requires.2 c.requires.3 (λ i. (c.slice_known-1.given i).fits) (λ i. (c.shared_slice_known-1.given i).fits)
    c.pass_over-next.result c.pass_over-next.new.state c.pass_over-next.ensures in
    answered c.args.state.now c.args.bytes.now c.args.memory.now c.args.answers.now c.args.so_far.taken c.args.so_far.written
    c.requires.0 c.requires.1 c.requires.2 c.requires.3 (λ i. (c.slice_known-1.given i).fits) (λ i. (c.shared_slice_known-1.given i).fits)
    c.pass_over-next.result c.pass_over-next.new.state c.pass_over-next.ensures
    (omega (arith, most, c.if-next-bytes.false)) c.take-length.result c.take-length.new.state c.take-length.new.memory c.take-length.new.answer c.take-length.ensures
