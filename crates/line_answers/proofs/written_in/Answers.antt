-- An answer that can be formed and has room is told; any other is refused before a byte is touched.
use mathlib.Core.Path.{◌≡◌, sym, ◌∙◌}
use mathlib.Core.Bool.{true}
use borrow.Author.Tests.{lt-ltb, le-ltb}
use Rattle.document.specs.AnswerWriter.{answer_formed, answer_refusal, answer_written, answer_buffer}
use Rattle.line_answers.proofs.written_in.Goals as goal

pub returns-then-not-is_formed : goal.returns-then-not-is_formed
unfolding answer_refusal answer_written answer_buffer
returns-then-not-is_formed c =
    let formed = c.is_formed.ensures in
    record { result = simp (← formed, c.if-not-is_formed.true); buffer = simp (← formed, c.if-not-is_formed.true) }

pub returns-then-out-lt-ANSWER_ROOM : goal.returns-then-out-lt-ANSWER_ROOM
unfolding answer_refusal answer_written answer_buffer
returns-then-out-lt-ANSWER_ROOM c =
    let formed : answer_formed (record { status = c.args.status; body = c.args.body.now }) ≡ true = sym c.is_formed.ensures ∙ c.if-not-is_formed.false in
    let short = lt-ltb _ _ c.if-out-lt-ANSWER_ROOM.true in
    record { result = simp (formed, short); buffer = simp (formed, short) }

pub returns : goal.returns
unfolding answer_refusal answer_written answer_buffer
returns c =
    let formed : answer_formed (record { status = c.args.status; body = c.args.body.now }) ≡ true = sym c.is_formed.ensures ∙ c.if-not-is_formed.false in
    let room = le-ltb _ _ c.if-out-lt-ANSWER_ROOM.false in
    record { result = simp (formed, room, c.tell.ensures.length); buffer = simp (formed, room) c.tell.ensures.buffer }
