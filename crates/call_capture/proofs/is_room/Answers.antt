-- No more messages are found than a third of the bytes; else they are counted.
use mathlib.Core.Path.{sym, ◌∙◌}
use native.Mathlib.Omega.{arith}
use borrow.Author.Tests.{le-leb}
use Rattle.call_capture.proofs.Shortest.{captured_few}
use Rattle.call_capture.proofs.is_room.Goals as goal

pub returns-then-room-bytes : goal.returns-then-room-bytes
returns-then-room-bytes c =
    let a = c.args in
    le-leb _ a.room c.if-room-bytes.true ∙ sym (le-leb _ a.room (omega (arith, captured_few a.bytes.now, c.if-room-bytes.true)))
