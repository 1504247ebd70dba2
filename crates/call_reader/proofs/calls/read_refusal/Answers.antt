-- The length, the bounds, the room, in turn.
use mathlib.Core.List.{[]}
use mathlib.Core.Path.{sym, ap, ◌∙◌}
use Rattle.document.specs.Areas.{bytes_at}
use Rattle.line_reader.proofs.Heads.{sound_head}
use Rattle.line_reader.specs.Reader as host
use Rattle.call_reader.proofs.Readings.{number_short, number_outside, number_room, number_taken}
use Rattle.call_reader.proofs.calls.read_refusal.Goals as goal

pub returns-then-reader-lt-READER_LENGTH : goal.returns-then-reader-lt-READER_LENGTH
returns-then-reader-lt-READER_LENGTH c =
    let args = c.args in
    number_short args.reader.now args.out.now c.if-reader-lt-READER_LENGTH.true

pub returns-then-not-is_sound : goal.returns-then-not-is_sound
returns-then-not-is_sound c =
    let args = c.args in
    let if1 = c.if-reader-lt-READER_LENGTH in
    let head_in = c.head_in-head in
    number_outside args.reader.now args.out.now if1.false (sym (ap host.sound head_in.ensures) ∙ sound_head head_in.result (bytes_at args.reader.now 6 64) [] ∙ sym c.is_sound.ensures ∙ c.if-not-is_sound.true)

pub returns-then-out-lt-MOST_DATA : goal.returns-then-out-lt-MOST_DATA
returns-then-out-lt-MOST_DATA c =
    let args = c.args in
    let if1 = c.if-reader-lt-READER_LENGTH in
    let head_in = c.head_in-head in
    number_room args.reader.now args.out.now if1.false (sym (ap host.sound head_in.ensures) ∙ sound_head head_in.result (bytes_at args.reader.now 6 64) [] ∙ sym c.is_sound.ensures ∙ c.if-not-is_sound.false) c.if-out-lt-MOST_DATA.true

pub returns : goal.returns
returns c =
    let args = c.args in
    let if1 = c.if-reader-lt-READER_LENGTH in
    let head_in = c.head_in-head in
    number_taken args.reader.now args.out.now if1.false (sym (ap host.sound head_in.ensures) ∙ sound_head head_in.result (bytes_at args.reader.now 6 64) [] ∙ sym c.is_sound.ensures ∙ c.if-not-is_sound.false) c.if-out-lt-MOST_DATA.false
