-- An order concerns one end of the cable; the other stays as it is.
use Rattle.std.specs.Prelude.{◌≡◌}
use Rattle.play.specs.declared.order.Order.{Order}
use Rattle.play.specs.declared.order.Order.TheVariants.{Gate, Cable}
use Rattle.play.specs.declared.play.Play.{Play}

abbrev pub OtherEndKept : Order → Play → Play → Type 0
OtherEndKept (Gate order) before after = after.reader ≡ before.reader
OtherEndKept (Cable order) before after = after.gate ≡ before.gate
