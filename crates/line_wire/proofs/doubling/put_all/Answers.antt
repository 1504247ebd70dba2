-- What is left to put gives the whole: the invariant of a doubled copy.
use mathlib.Core.Path.{◌≡◌, ap}
use mathlib.Core.List.{[], ◌∷◌}
use Prim.Native.Nat.{◌+◌, ◌<◌, ◌%◌}
use native.Mathlib.Omega.{arith}
use borrow.Author.Rules.{rules}
use lib.ListN.{length, get_or, drop, drop_of_length-le}
use Rattle.document.specs.Doubling.{stuffed}
use Rattle.document.specs.Sum.{total}
use Rattle.line_wire.specs.declared.doubling.Progress.{Progress}
use Rattle.line_wire.proofs.Stuffed.{stuffed-drop-length, stuffed_drop_sets, total_drop}
use Rattle.line_wire.proofs.doubling.put_all.Goals as goal

pub put-progress-requires : goal.put-progress-requires
put-progress-requires c =
    let l = c.loop-byte in
    let s = c.args.bytes.now in
    omega (arith, stuffed-drop-length s l.byte-index (search rules))

pub loop-byte-preserved : goal.loop-byte-preserved
loop-byte-preserved c =
    let p = c.put-progress in
    let l = c.loop-byte in
    let s = c.args.bytes.now in
    let h : l.byte-index < length s = search rules in
    let at : p.result.at ≡ l.progress.at + length (stuffed (get_or s l.byte-index 0 ∷ [])) = ap (λ (q : Progress). q.at) p.ensures.progress in
    let sum : p.result.sum ≡ (l.progress.sum + total (get_or s l.byte-index 0 ∷ [])) % 256 = ap (λ (q : Progress). q.sum) p.ensures.progress in (
      search rules,
      omega arith,
      omega (arith, stuffed-drop-length s l.byte-index h),
      omega (arith, total_drop s l.byte-index h),
      rw (p.ensures.buffer, at, stuffed_drop_sets s l.byte-index h) l.invariant.4,
    )

pub returns : goal.returns
returns c =
    let l = c.loop-byte in
    let f = c.args.from in
    let none : drop l.byte-index c.args.bytes.now ≡ [] = drop_of_length-le _ c.loop-byte-test.false in
    let at : l.progress.at ≡ f.at + length (stuffed c.args.bytes.now) = omega (arith, rw none at l.invariant.2) in
    let sum : l.progress.sum ≡ (f.sum + total c.args.bytes.now) % 256 = omega (arith, rw none at l.invariant.3) in
    record { progress = λ i. record { at = at i; sum = sum i }; buffer = rw none at l.invariant.4 }
