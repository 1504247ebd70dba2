-- Whether all behind the ones passed are within is whether all are; the sum so far and the sizes to come make the whole.
use mathlib.Core.Bool.{true, false}
use mathlib.Core.Path.{◌≡◌, refl, sym, ◌∙◌}
use Prim.Native.Nat.{◌+◌, ◌-◌, ◌*◌}
use native.Mathlib.Omega.{arith}
use lib.ListN.{drop}
use Rattle.document.specs.Areas.{bytes_at}
use Rattle.document.specs.Values.{number}
use Rattle.document.specs.Variables.{definitions_in}
use Rattle.state_bounds.specs.Measured.{are_within}
use Rattle.state_bounds.proofs.Looked.{turn_zero, turn_outside, turn_within, turn_size, none_within, measured_outside, measured_within}
use Rattle.state_bounds.proofs.measure.Goals as goal
use Rattle.state_bounds.proofs.measure.Goals.{then-size-eq0-via-then-size-eq0, then-size-eq0-via-else-size-eq0+then-not-within}

pub returns-then-size-eq0 : goal.returns-then-size-eq0
returns-then-size-eq0 c =
    let a = c.args in
    let l = c.loop-k in
    let block = a.block.now in
    let outside : are_within a.limit (definitions_in true (a.count - l.k) (drop (a.from + l.k * 5) block)) ≡ false =
    elim c.then-size-eq0.branch [
      | then-size-eq0-via-then-size-eq0 w ↦
          turn_zero block a.limit a.from a.count l.k c.loop-k-test.true c.from-size.result (number (bytes_at block (a.from + l.k * 5 + 1) 4)) c.from-size.ensures refl w.if-size-eq0.true
      | then-size-eq0-via-else-size-eq0+then-not-within w ↦
          turn_outside block a.limit a.from a.count l.k c.loop-k-test.true c.from-size.result w.at.result c.from-size.ensures w.at.ensures (sym w.within.ensures ∙ w.if-not-within.true)
    ] in
    (measured_outside a.limit (definitions_in true a.count (drop a.from block)) (sym l.invariant.1 ∙ outside), tt)

pub loop-k-preserved : goal.loop-k-preserved
loop-k-preserved c =
    let a = c.args in
    let l = c.loop-k in
    let block = a.block.now in (
      omega (arith, c.from-size.ensures, c.type_inv.block (a.from + l.k * 5)),
      turn_within block a.limit a.from a.count l.k c.loop-k-test.true c.from-size.result c.at.result c.from-size.ensures c.at.ensures c.if-size-eq0.false (sym c.within.ensures ∙ c.if-not-within.false)
          ∙ l.invariant.1,
      omega (arith, turn_size block a.limit a.from a.count l.k c.loop-k-test.true c.from-size.result c.at.result c.from-size.ensures c.at.ensures, l.invariant.2),
    )

pub returns : goal.returns
returns c =
    let a = c.args in
    let l = c.loop-k in
    let z : a.count - l.k ≡ 0 = omega arith in
    let within = sym (rw z at l.invariant.1) ∙ none_within a.limit in
    (measured_within a.limit (definitions_in true a.count (drop a.from a.block.now)) l.sum within (omega (arith, rw z at l.invariant.2)), omega arith)
