-- The answer to what a receiver holds of a message, by its sum, its length, and the first 64 data bytes.
use Rattle.std.specs.Prelude.{cond, not, [], eqb, ltb}
use Rattle.document.specs.Numbers.{most_data, sum_wrong, message_too_long}
use Rattle.document.specs.Services.{service_of}
use Rattle.document.specs.Gate.{Gate, Outcome, says}
use Rattle.document.specs.Commands.{served}
use Rattle.line_receiver.specs.Report.{HeldMessage}
use Rattle.state_parts.specs.State.{Instruments}
use Rattle.state_byte.specs.After.{instruments_after}

unfoldable pub answered_held : Gate → HeldMessage → Outcome
answered_held g h =
    cond (not (eqb h.sum 0)) (says g sum_wrong [])
    (cond (ltb most_data h.length) (says g message_too_long []) (served g (service_of h.command) h.kept))

-- what is then set up: a message that is refused here changes nothing
unfoldable pub instruments_held : Instruments → HeldMessage → Instruments
instruments_held i h =
    cond (not (eqb h.sum 0)) i
    (cond (ltb most_data h.length) i
    (instruments_after (service_of h.command).operation i (service_of h.command) h.kept))
