-- What is left to read gives the whole.
use mathlib.Core.Path.{◌≡◌, refl, sym, ap, ◌∙◌}
use mathlib.Core.List.{List, []}
use Prim.Native.Nat.{ℕ, ◌+◌, ◌-◌, ◌%◌}
use native.Mathlib.Omega.{arith}
use lib.ListN.{length, take}
use lib.Seq.{take-nil}
use Rattle.document.specs.Sum.{total}
use Rattle.line_captures.specs.Messages.{literals_from}
use Rattle.line_captures.proofs.Passing.{passed_none, passed_on, literals_on, literals_other, sum_on}
use Rattle.line_captures.proofs.messages.taken_literals.Goals as goal

pub loop-span-init : goal.loop-span-init
loop-span-init c =
    record { missing_then = refl; sum_then = refl; passed = passed_none c.args.bytes.now c.args.from c.requires; small = omega arith }

-- a start or the end: nothing is taken
pub returns-in_default : goal.returns-in_default
returns-in_default c =
    let a = c.args in
    let l = c.loop-span in
    let none : literals_from a.bytes.now l.span.behind ≡ [] = literals_other a.bytes.now l.span.behind c.met_at.result c.met_at.ensures c.in_default.not-Literal in
    record {
      missing = omega (arith, l.invariant.missing_then, ap length none);
      added = omega (arith, l.invariant.small, l.invariant.sum_then, ap (λ (ls : List ℕ). total (take l.span.missing ls)) none, ap total (take-nil {A = ℕ} l.span.missing));
      passed = l.invariant.passed;
    }

pub loop-span-preserved : goal.loop-span-preserved
loop-span-preserved c =
    let a = c.args in
    let l = c.loop-span in
    let t = c.in-Literal in
    let is = sym c.met_at.ensures ∙ t.is in
    let on = literals_on a.bytes.now l.span.behind t.literal t.behind is in
    let some = c.loop-span-test.true in
    record {
      missing_then = omega (arith, l.invariant.missing_then, ap length on);
      sum_then =
          ap (λ (k : ℕ). (k + total (take (l.span.missing - 1) (literals_from a.bytes.now t.behind))) % 256) c.added.ensures
          ∙ sum_on l.span.missing l.span.sum t.literal (literals_from a.bytes.now t.behind) some
          ∙ ap (λ (ls : List ℕ). (l.span.sum + total (take l.span.missing ls)) % 256) (sym on)
          ∙ l.invariant.sum_then;
      passed = passed_on a.bytes.now a.from l.span.behind t.literal t.behind l.invariant.passed is;
      small = omega (arith, c.added.ensures);
    }

pub returns : goal.returns
returns c =
    let l = c.loop-span in
    let none : l.span.missing ≡ 0 = omega (arith, c.loop-span-test.false) in
    let nothing : total (take l.span.missing (literals_from c.args.bytes.now l.span.behind)) ≡ 0 =
    ap (λ (k : ℕ). total (take k (literals_from c.args.bytes.now l.span.behind))) none in
    record {
      missing = omega (arith, none, l.invariant.missing_then);
      added = omega (arith, l.invariant.small, l.invariant.sum_then, nothing);
      passed = l.invariant.passed;
    }
