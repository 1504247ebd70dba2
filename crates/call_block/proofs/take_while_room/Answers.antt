-- What is left to take gives the whole.
use mathlib.Core.Path.{refl, sym, ◌∙◌}
use Prim.Native.Nat.{ℕ, ◌+◌, ◌-◌, ◌<◌, ◌≤◌}
use native.Mathlib.Omega.{arith}
use lib.ListN.{length, get_or}
use Rattle.document.specs.Numbers.{answer_room}
use Rattle.state_block.specs.Layout.{decoded}
use Rattle.call_quiet.proofs.Over.{same_state}
use Rattle.call_block.proofs.Ends.{stored_on, gone_all, gone_short}
use Rattle.call_block.proofs.take_while_room.Goals as goal

pub loop-going-init : goal.loop-going-init
loop-going-init c =
    let block = c.args.state.now in
    let small : (i : ℕ) → get_or block i 0 < 256 = λ i. (c.slice_known-1.given i).fits in
    (refl, refl, omega arith, omega arith, c.requires.1, same_state block c.requires.0 small (decoded block) refl, refl)

pub take_next-going-requires : goal.take_next-going-requires
take_next-going-requires c =
    let l = c.loop-going in
    let room : answer_room ≤ length l.answers - l.going.written = c.if-answers-going-ge-ANSWER_ROOM.true in
    let enough : l.going.written + answer_room ≤ length l.answers = omega (arith, room, l.invariant.3) in
    (omega (arith, l.invariant.0, c.requires.0), l.invariant.4, c.loop-going-test.true, enough)

pub loop-going-smaller : goal.loop-going-smaller
loop-going-smaller c =
    omega (arith, c.take_next-going.ensures.onward, c.take_next-going.ensures.inside)

pub loop-going-preserved : goal.loop-going-preserved
loop-going-preserved c =
    let f = c.take_next-going.ensures in
    let l = c.loop-going in (
      c.take_next-going.auto.state ∙ l.invariant.0,
      c.take_next-going.auto.answers ∙ l.invariant.1,
      f.inside,
      omega (arith, f.room, c.take_next-going.auto.answers),
      f.within,
      stored_on c.args.state.now l.state c.take_next-going.new.state l.memory _ c.requires.0 l.invariant.4 f.within l.invariant.5 f.state,
      l.invariant.6 ∙ f.goes,
    )

-- ---- no room is left

pub shape_of-state-else-answers-going-ge-ANSWER_ROOM : goal.shape_of-state-else-answers-going-ge-ANSWER_ROOM
shape_of-state-else-answers-going-ge-ANSWER_ROOM c = c.loop-going.invariant.0

pub shape_of-memory-else-answers-going-ge-ANSWER_ROOM : goal.shape_of-memory-else-answers-going-ge-ANSWER_ROOM
shape_of-memory-else-answers-going-ge-ANSWER_ROOM c =
    c.loop-going.invariant.4.memory_part.size ∙ sym c.requires.1.memory_part.size

pub shape_of-answers-else-answers-going-ge-ANSWER_ROOM : goal.shape_of-answers-else-answers-going-ge-ANSWER_ROOM
shape_of-answers-else-answers-going-ge-ANSWER_ROOM c = c.loop-going.invariant.1

pub returns-else-answers-going-ge-ANSWER_ROOM : goal.returns-else-answers-going-ge-ANSWER_ROOM
returns-else-answers-going-ge-ANSWER_ROOM c =
    let l = c.loop-going in
    let a = c.args in
    gone_short a.bytes.now l.going.taken l.going.written a.state.now a.memory.now a.answers.now l.state l.memory l.answers l.invariant.6 l.invariant.5
    c.if-answers-going-ge-ANSWER_ROOM.false

-- ---- no byte is left

pub shape_of-state-after-loop-going : goal.shape_of-state-after-loop-going
shape_of-state-after-loop-going c = c.loop-going.invariant.0

pub shape_of-memory-after-loop-going : goal.shape_of-memory-after-loop-going
shape_of-memory-after-loop-going c =
    c.loop-going.invariant.4.memory_part.size ∙ sym c.requires.1.memory_part.size

pub shape_of-answers-after-loop-going : goal.shape_of-answers-after-loop-going
shape_of-answers-after-loop-going c = c.loop-going.invariant.1

pub returns-after-loop-going : goal.returns-after-loop-going
returns-after-loop-going c =
    let l = c.loop-going in
    let a = c.args in
    gone_all a.bytes.now l.going.taken l.going.written a.state.now a.memory.now a.answers.now l.state l.memory l.answers l.invariant.6 l.invariant.5
    c.loop-going-test.false
