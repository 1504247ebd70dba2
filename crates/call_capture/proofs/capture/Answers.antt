-- By whether there is room.
use mathlib.Core.Path.{sym, ◌∙◌}
use borrow.Author.Tests.{leb-true, leb-false}
use Rattle.call_capture.proofs.Outcomes.{refused, listed}
use Rattle.call_capture.proofs.capture.Goals as goal

pub returns-then-not-is_room : goal.returns-then-not-is_room
returns-then-not-is_room c =
    let a = c.args in
    refused a.bytes.now a.list.now (leb-false _ _ (sym c.is_room.ensures ∙ c.if-not-is_room.true))

pub returns : goal.returns
returns c =
    let a = c.args in
    listed a.bytes.now a.list.now c.walk.result _ (leb-true _ _ (sym c.is_room.ensures ∙ c.if-not-is_room.false)) c.walk.ensures
