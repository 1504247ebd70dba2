-- What is left to measure gives the whole.
use mathlib.Core.Path.{◌≡◌, sym, ap, ◌∙◌}
use mathlib.Core.List.{[], ◌∷◌}
use Prim.Native.Nat.{◌+◌, ◌<◌, ◌%◌}
use native.Mathlib.Omega.{arith}
use borrow.Author.Rules.{rules}
use lib.ListN.{length, get_or, drop, drop_of_length-le}
use Rattle.document.specs.Doubling.{stuffed}
use Rattle.document.specs.Sum.{total}
use Rattle.line_wire.specs.declared.doubling.Progress.{Progress}
use Rattle.line_wire.specs.Put.{progressed}
use Rattle.line_wire.proofs.Stuffed.{stuffed_one}
use Rattle.line_wire.proofs.Writing.{progressed_none, progressed_drop}
use Rattle.line_measure.proofs.measured_all.Goals as goal

pub loop-byte-preserved : goal.loop-byte-preserved
loop-byte-preserved c =
    let l = c.loop-byte in
    let s = c.args.bytes.now in
    let b = get_or s l.byte-index 0 in
    let h : l.byte-index < length s = search rules in
    let at : c.behind-progress.result.at ≡ l.progress.at + length (stuffed (b ∷ [])) = ap (λ (q : Progress). q.at) c.behind-progress.ensures in
    let sum : c.behind-progress.result.sum ≡ (l.progress.sum + total (b ∷ [])) % 256 = ap (λ (q : Progress). q.sum) c.behind-progress.ensures in (
      omega (arith, stuffed_one b),
      omega arith,
      ap (λ (q : Progress). progressed q (drop (l.byte-index + 1) s)) c.behind-progress.ensures
          ∙ progressed_drop l.progress s l.byte-index h
          ∙ l.invariant.2,
    )

pub returns : goal.returns
returns c =
    let l = c.loop-byte in
    let none : drop l.byte-index c.args.bytes.now ≡ [] = drop_of_length-le _ c.loop-byte-test.false in
    sym (progressed_none l.progress l.invariant.1) ∙ rw none at l.invariant.2
