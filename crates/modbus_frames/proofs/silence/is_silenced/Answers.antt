-- Reason by reason; the check sum over the whole frame leaves 0 where it is right.
use borrow.Author.Rules.{rules}
use Rattle.document.proofs.Bytes.{all_of_bytes}
use Rattle.modbus_frames.proofs.Silenced.{too_short, too_long, elsewhere, no_function, by_check_sum}
use Rattle.modbus_frames.proofs.silence.is_silenced.Goals as goal

pub returns-then-frame-lt-SHORTEST : goal.returns-then-frame-lt-SHORTEST
returns-then-frame-lt-SHORTEST c =
    let a = c.args in
    too_short a.station a.frame.now c.if-frame-lt-SHORTEST.true

pub returns-then-frame-gt-LONGEST : goal.returns-then-frame-gt-LONGEST
returns-then-frame-gt-LONGEST c =
    let a = c.args in
    too_long a.station a.frame.now c.if-frame-gt-LONGEST.true

pub returns-then-frame-station : goal.returns-then-frame-station
returns-then-frame-station c =
    let a = c.args in
    elsewhere a.station a.frame.now c.if-frame-station.true

pub returns-then-frame-gt-LAST_FUNCTION : goal.returns-then-frame-gt-LAST_FUNCTION
returns-then-frame-gt-LAST_FUNCTION c =
    let a = c.args in
    no_function a.station a.frame.now c.if-frame-gt-LAST_FUNCTION.true

pub returns : goal.returns
returns c =
    by_check_sum c.args.station c.args.frame.now
    (all_of_bytes c.args.frame.now (search rules))
    c.requires c.if-frame-lt-SHORTEST.false c.if-frame-gt-LONGEST.false c.if-frame-station.false c.if-frame-gt-LAST_FUNCTION.false
    c.check_sum.result c.check_sum.ensures
