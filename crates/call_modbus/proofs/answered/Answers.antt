-- Silent, or answered and sealed.
use mathlib.Core.Bool.{false}
use mathlib.Core.Path.{◌≡◌, refl, sym, ◌∙◌}
use Rattle.document.specs.Frames.{is_silenced}
use Rattle.call_modbus.proofs.Answers.{Right, lent-right, silent, answered}
use Rattle.call_modbus.proofs.Responses.{room_left}
use Rattle.modbus_frames.proofs.Silenced.{heard}
use Rattle.call_modbus.proofs.answered.Goals as goal

pub returns-then-is_silenced : goal.returns-then-is_silenced
returns-then-is_silenced c =
    let a = c.args in
    silent a.station a.frame.now a.memory.now a.out.now _ c.in_ok-refusal_of.ensures refl (sym c.is_silenced.ensures ∙ c.if-is_silenced.true)

-- ---- not silenced

pub respond-told-requires : goal.respond-told-requires
respond-told-requires c =
    let a = c.args in
    let right : Right a.station a.memory.now a.out.now = lent-right a.station a.memory.now a.out.now (sym c.in_ok-refusal_of.ensures) in
    let loud : is_silenced a.station a.frame.now ≡ false = sym c.is_silenced.ensures ∙ c.if-is_silenced.false in
    let h = heard a.station a.frame.now loud in
    (h.long, h.function, right.memory-length, right.room)

pub seal-requires : goal.seal-requires
seal-requires c =
    let a = c.args in
    let right : Right a.station a.memory.now a.out.now = lent-right a.station a.memory.now a.out.now (sym c.in_ok-refusal_of.ensures) in
    room_left a.frame.now a.memory.now a.out.now _ _ _ right.room c.respond-told.ensures

pub returns : goal.returns
returns c =
    let a = c.args in
    let right : Right a.station a.memory.now a.out.now = lent-right a.station a.memory.now a.out.now (sym c.in_ok-refusal_of.ensures) in
    let loud : is_silenced a.station a.frame.now ≡ false = sym c.is_silenced.ensures ∙ c.if-is_silenced.false in
    answered a.station a.frame.now a.memory.now a.out.now _ c.in_ok-refusal_of.ensures refl loud right.room _ _ _ _ _ c.respond-told.ensures c.seal.ensures.0 c.seal.ensures.1
