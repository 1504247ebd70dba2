-- The parts of a message are measured in their order.
use mathlib.Core.Path.{◌≡◌, ap}
use Prim.Native.Nat.{◌+◌}
use native.Mathlib.Omega.{arith}
use lib.ListN.{length}
use Rattle.document.specs.Doubling.{stuffed}
use Rattle.document.specs.Message.{length_part}
use Rattle.line_wire.specs.declared.doubling.Progress.{Progress}
use Rattle.line_wire.proofs.Stuffed.{stuffed_length}
use Rattle.line_measure.proofs.Parts.{length_part_short, measured_command}
use Rattle.line_measure.proofs.wire_length.Goals as goal

pub measured_all-summed-requires : goal.measured_all-summed-requires
measured_all-summed-requires c =
    let s = c.args in
    let at : c.measured_length-before.result.at ≡ 2 + length (stuffed (length_part s.command s.body.now)) = ap (λ (q : Progress). q.at) c.measured_length-before.ensures in
    (omega (arith, length_part_short s.command s.body.now), c.requires)

pub behind-end-requires : goal.behind-end-requires
behind-end-requires c =
    let s = c.before.before.before.before in
    let p = c.measured_length-before.result in
    let at : p.at ≡ 2 + length (stuffed (length_part s.args.command s.args.body.now)) = ap (λ (q : Progress). q.at) c.measured_length-before.ensures in
    let behind : c.measured_all-summed.result.at ≡ p.at + length (stuffed s.args.body.now) = ap (λ (q : Progress). q.at) c.measured_all-summed.ensures in
    omega (arith, s.requires, length_part_short s.args.command s.args.body.now, stuffed_length s.args.body.now)

pub returns : goal.returns
returns c =
    let a = c.args in
    measured_command a.command a.body.now
    c.measured_length-before.result
    c.measured_all-summed.result
    c.measured_length-before.ensures
    c.measured_all-summed.ensures
    c.behind-end.result
    c.sum_byte.result
    c.sum_byte.ensures
    c.behind-end.ensures
