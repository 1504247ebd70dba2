-- The four cases of a pairing.
use mathlib.Core.Path.{sym, ap, ◌∙◌}
use native.Mathlib.Omega.{arith}
use borrow.Author.Tests.{eq-eqb, ne_eqb}
use Rattle.line_reader.proofs.Bounds.{stepped_doubled, stepped_first, stepped_start, stepped_plain}
use Rattle.line_reader.specs.Head.{with_body}
use Rattle.line_reader.specs.Reader.{silent}
use Rattle.line_reader.proofs.head.Head.step.Goals as goal

pub returns-in-true-false : goal.returns-in-true-false
returns-in-true-false c =
    let args = c.args in
    let arm = c.in-true-false in
    rw c.asking.ensures ((λ body. stepped_first (with_body args.self body) args.byte (eq-eqb _ _ arm.is-0) (ne_eqb _ _ arm.is-1)), omega arith)

pub returns-in-false-true : goal.returns-in-false-true
returns-in-false-true c =
    let args = c.args in
    let arm = c.in-false-true in
    rw c.asking-in-false-true.ensures
    ((λ body. stepped_start (with_body args.self body) args.byte (ne_eqb _ _ arm.is-0) (eq-eqb _ _ arm.is-1) ∙ ap silent (sym (c.«open».ensures body))), omega arith)

pub returns-in-true-true : goal.returns-in-true-true
returns-in-true-true c =
    let args = c.args in
    let arm = c.in-true-true in
    let taken = c.take_literal.ensures in
    ((λ body. stepped_doubled (with_body args.self body) args.byte (eq-eqb _ _ arm.is-0) (eq-eqb _ _ arm.is-1) ∙ taken.0 body), taken.1)

pub returns-in-false-false : goal.returns-in-false-false
returns-in-false-false c =
    let args = c.args in
    let arm = c.in-false-false in
    let taken = c.take_literal-in-false-false.ensures in
    ((λ body. stepped_plain (with_body args.self body) args.byte (ne_eqb _ _ arm.is-0) (ne_eqb _ _ arm.is-1) ∙ taken.0 body), taken.1)
