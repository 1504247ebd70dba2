-- The words are those of the address and the index.
use mathlib.Core.Path.{sym, ap}
use mathlib.Core.Bool.{Bool}
use mathlib.Core.List.{◌++◌}
use Rattle.document.specs.Numbers.{done}
use Rattle.document.specs.Areas.{buffer_begin}
use Rattle.document.specs.Values.{little_endian}
use Rattle.document.specs.Variables.{address_width}
use Rattle.line_wire.proofs.Writing.{told_as}
use Rattle.serve_recorder.proofs.recording.buffer_from.Goals as goal

pub returns-then-ex : goal.returns-then-ex
returns-then-ex c =
    let index = c.args.index in
    told_as _ _ (ap (λ (ex : Bool). record { status = done; body = little_endian (address_width ex) buffer_begin ++ little_endian 2 index }) (sym c.if-ex.true)) c.done_words.ensures

pub returns : goal.returns
returns c =
    let index = c.args.index in
    told_as _ _ (ap (λ (ex : Bool). record { status = done; body = little_endian (address_width ex) buffer_begin ++ little_endian 2 index }) (sym c.if-ex.false)) c.done_words-2.ensures
