-- The two bytes in front, and nothing of the data.
use mathlib.Core.Path.{refl, sym}
use native.Mathlib.Omega.{arith}
use lib.ListN.{length-set}
use Rattle.line_wire.specs.Put.{front}
use Rattle.line_wire.proofs.Writing.{progressed_none}
use Rattle.line_answers.proofs.begin.Goals as goal

pub bounds-out-1 : goal.bounds-out-1
bounds-out-1 c = simp length-set (omega (arith, c.requires))

pub returns : goal.returns
returns c =
    let status = c.args.status in
    record { progress = sym (progressed_none (front status) (omega arith)); buffer = refl }
