-- What is left to walk gives the whole.
use mathlib.Core.Path.{◌≡◌, refl, sym, ap, ◌∙◌}
use mathlib.Core.List.{List, []}
use Prim.Native.Nat.{ℕ, ◌+◌, ◌≤◌}
use native.Mathlib.Omega.{arith}
use lib.ListN.{length, length-append}
use Rattle.std.specs.declared.option.Option.{Option}
use Rattle.std.specs.declared.option.Option.TheVariants.{None, Some}
use Rattle.document.specs.Message.{heard_at}
use Rattle.document_captures.specs.Captures.{captured}
use Rattle.line_captures.specs.declared.messages.Step.{Step}
use Rattle.line_captures.specs.declared.messages.Found.{Found}
use Rattle.line_captures.specs.Entries.{put_all}
use Rattle.line_captures.specs.Messages.{heard_from, entries_in, entries_of}
use Rattle.line_captures.specs.Walk.{captured_from, Stepped}
use Rattle.line_captures.proofs.Passing.{captured_behind}
use Rattle.line_captures.proofs.Lists.{put_append}
use Rattle.line_captures.proofs.walk.walk.Invariants.{Left}
use Rattle.line_captures.proofs.walk.walk.Goals as goal

begins : (bytes list : List ℕ) → Left bytes list list 0 0
unfolding captured_from heard_from captured heard_at
begins bytes list = record { count = omega arith; filled = refl; few = omega arith; inside = omega arith; same = refl }

one_or_none : (place : ℕ) (f : Option Found) → length (entries_in place f) ≤ 1
one_or_none place None = omega arith
one_or_none place (Some f) = omega arith

goes_on : (bytes before list after : List ℕ) (at n r : ℕ) (s : Step) → Left bytes before list at n → Stepped bytes at s → r ≡ n + length (entries_of at s)
    → after ≡ put_all list n (entries_of at s) → length after ≡ length before → Left bytes before after s.behind r
goes_on bytes before list after at n r s left step is put same =
    let all : length (captured_from bytes at) ≡ length (entries_of at s) + length (captured_from bytes s.behind) =
    ap length step.found ∙ length-append (entries_of at s) (captured_from bytes s.behind) in
    record {
      count = omega (arith, is, all, left.count);
      filled =
          (λ i. put_all (put i) (is i) (captured_from bytes s.behind))
          ∙ sym (put_append (entries_of at s) (captured_from bytes s.behind) list n)
          ∙ ap (put_all list n) (sym step.found)
          ∙ left.filled;
      few = omega (arith, is, one_or_none at s.found, left.few, step.forward);
      inside = step.inside;
      same = same;
    }

pub loop-at-init : goal.loop-at-init
loop-at-init c = begins c.args.bytes.now c.args.list.now

pub loop-at-preserved : goal.loop-at-preserved
loop-at-preserved c =
    let a = c.args in
    let l = c.loop-at in
    goes_on a.bytes.now a.list.now l.list c.listed-n.new.list l.at l.n c.listed-n.result c.step-found.result l.invariant c.step-found.ensures
    c.listed-n.ensures.0 c.listed-n.ensures.1 (c.listed-n.auto.list ∙ l.invariant.same)

pub shape_of-list : goal.shape_of-list
shape_of-list c = c.loop-at.invariant.same

pub returns : goal.returns
returns c =
    let a = c.args in
    let l = c.loop-at in
    let last : l.at ≡ length a.bytes.now = omega (arith, l.invariant.inside, c.loop-at-test.false) in
    let none : captured_from a.bytes.now l.at ≡ [] = ap (captured_from a.bytes.now) last ∙ captured_behind a.bytes.now in
    record {
      count = omega (arith, l.invariant.count, ap length none);
      list = ap (put_all l.list l.n) (sym none) ∙ l.invariant.filled;
    }
