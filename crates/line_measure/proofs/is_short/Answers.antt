-- Room for a message of which every byte is doubled is room for any.
use mathlib.Core.Path.{sym, ap}
use native.Mathlib.Omega.{arith}
use borrow.Author.Tests.{le-ltb}
use lib.Dec.{ltb}
use lib.ListN.{length}
use Rattle.document.specs.CommandWriter.{command_on_wire}
use Rattle.line_measure.proofs.Parts.{command_most}
use Rattle.line_measure.proofs.is_short.Goals as goal

pub returns-then-room-body : goal.returns-then-room-body
returns-then-room-body c =
    let a = c.args in
    sym (le-ltb a.room (length (command_on_wire a.command a.body.now)) (omega (arith, c.if-room-body.true, command_most a.command a.body.now)))

pub returns : goal.returns
returns c = ap (ltb c.args.room) c.wire_length.ensures
