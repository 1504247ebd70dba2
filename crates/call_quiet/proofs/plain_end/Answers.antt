-- What is left to pass gives the whole.
use mathlib.Core.Path.{refl}
use native.Mathlib.Omega.{arith}
use Rattle.call_quiet.proofs.Ahead.{ahead_plus, ahead_other, ahead_end}
use Rattle.call_quiet.proofs.plain_end.Goals as goal

pub returns-then-bytes-i-eq-PLUS : goal.returns-then-bytes-i-eq-PLUS
returns-then-bytes-i-eq-PLUS c =
    let l = c.loop-i in
    let a = c.args in
    (omega (arith, l.invariant, ahead_plus a.bytes.now l.i a.end (omega arith) (omega arith) c.if-bytes-i-eq-PLUS.true), omega arith)

pub loop-i-preserved : goal.loop-i-preserved
loop-i-preserved c =
    let l = c.loop-i in
    let a = c.args in
    omega (arith, l.invariant, ahead_other a.bytes.now l.i a.end (omega arith) (omega arith) c.if-bytes-i-eq-PLUS.false)

pub returns : goal.returns
returns c =
    let l = c.loop-i in
    let a = c.args in
    (omega (arith, l.invariant, ahead_end a.bytes.now l.i a.end (omega arith)), omega arith)
