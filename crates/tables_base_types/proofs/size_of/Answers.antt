-- Row by row: a search from here on finds what a search of the whole table finds.
use mathlib.Core.Path.{sym, ◌∙◌}
use native.Mathlib.Omega.{arith}
use Rattle.tables_base_types.proofs.Search.{all_rows, no_row, hit, miss}
use Rattle.tables_base_types.proofs.Rows.{rows_of, code_at, size_at}
use Rattle.tables_base_types.proofs.size_of.Goals as goal

pub loop-base-init : goal.loop-base-init
loop-base-init c = all_rows _

pub returns-then-base-code : goal.returns-then-base-code
returns-then-base-code c =
    let l = c.loop-base in
    let inside = c.loop-base-test.true in
    size_at rows_of l.base-index (0, 0) inside ∙ sym (hit _ l.base-index inside (sym c.if-base-code.true ∙ code_at rows_of l.base-index (0, 0) inside)) ∙ l.invariant

pub loop-base-preserved : goal.loop-base-preserved
loop-base-preserved c =
    let l = c.loop-base in
    let inside = c.loop-base-test.true in
    sym (miss _ l.base-index inside (λ e. c.if-base-code.false (code_at rows_of l.base-index (0, 0) inside ∙ sym e))) ∙ l.invariant

pub returns : goal.returns
returns c = let l = c.loop-base in sym (no_row _ l.base-index (omega arith)) ∙ l.invariant
