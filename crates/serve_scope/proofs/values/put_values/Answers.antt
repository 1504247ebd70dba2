-- What is left to put gives the whole: one variable a turn.
use mathlib.Core.Path.{◌≡◌, refl, sym, ap, subst, ◌∙◌}
use mathlib.Core.Bool.{true}
use mathlib.Core.List.{List, ◌++◌}
use Prim.Native.Nat.{ℕ, ◌+◌, ◌-◌, ◌*◌, ◌<◌, ◌≤◌}
use native.Mathlib.Omega.{arith}
use lib.ListN.{length, get_or, take, drop, length-append}
use lib.Seq.{sets}
use Rattle.document.specs.Areas.{memory_end, may_be_read, bytes_at}
use Rattle.document.specs.Values.{number}
use Rattle.document.specs.declared.Variable.{Variable}
use Rattle.document.specs.Doubling.{stuffed}
use Rattle.document.specs.Variables.{all_may, values_of}
use Rattle.line_wire.specs.declared.doubling.Progress.{Progress}
use Rattle.line_wire.specs.Put.{progressed, Put}
use Rattle.line_wire.proofs.Stuffed.{stuffed_append}
use Rattle.line_wire.proofs.Writing.{progressed_none}
use Rattle.state_block.specs.Places.{scope_place}
use Rattle.serve_scope.proofs.Walked.{scope_count, left_at, behind_next, few, all_left, all_may_lem, may_first, values_first, put_progress, put_buffer}
use Rattle.serve_scope.proofs.values.put_values.Goals as goal

-- ---- a turn: the block, how many definitions are left in it and from where, and what the first of them says
module _ (block : List ℕ) (left at : ℕ) (some : 0 < left) (size address : ℕ) (es : size ≡ get_or block at 0) (ea : address ≡ number (bytes_at block (at + 1) 4)) where
  may : all_may may_be_read (left_at block left at) ≡ true → (address + size ≤ memory_end) × (all_may may_be_read (left_at block (left - 1) (at + 5)) ≡ true)
  may e = may_first block left at some size address es ea e

  module _ (memory : List ℕ) where
    abbrev here : List ℕ
    here = bytes_at memory address size

    abbrev rest : List ℕ
    rest = values_of memory (left_at block (left - 1) (at + 5))

    part : take (address + size - address) (drop address memory) ≡ here
    part = let e : address + size - address ≡ size = omega arith in ap (λ (n : ℕ). take n (drop address memory)) e

    values : values_of memory (left_at block left at) ≡ here ++ rest
    values = values_first block left at some size address es ea memory

    -- this one's part of what is to be put
    within : length (stuffed (take (address + size - address) (drop address memory))) ≤ length (stuffed (values_of memory (left_at block left at)))
    within =
        let more = ap (λ (bs : List ℕ). length (stuffed bs)) values ∙ ap length (stuffed_append here rest) ∙ length-append (stuffed here) (stuffed rest) in
        omega (arith, more, ap (λ (bs : List ℕ). length (stuffed bs)) part)

    -- it is put
    module _ (p q : Progress) (before after : List ℕ) (put : Put p (take (address + size - address) (drop address memory)) before q after) where
      done : Put p here before q after
      done = subst (λ (bs : List ℕ). Put p bs before q after) part put

      progress_kept : progressed q rest ≡ progressed p (values_of memory (left_at block left at))
      progress_kept = put_progress p q here rest before after done ∙ ap (progressed p) (sym values)

      buffer_kept : sets after q.at (stuffed rest) ≡ sets before p.at (stuffed (values_of memory (left_at block left at)))
      buffer_kept = put_buffer p q here rest before after done ∙ ap (λ (bs : List ℕ). sets before p.at (stuffed bs)) (sym values)

pub loop-i-init : goal.loop-i-init
loop-i-init c =
    let block = c.args.block.now in
    let memory = c.args.memory.now in
    let whole : scope_count block ≡ scope_count block - 0 = omega arith in
    let all = all_left block (few block c.requires.1) ∙ ap (λ (n : ℕ). left_at block n (scope_place + 1)) whole in (
      refl,
      omega arith,
      ap (all_may may_be_read) (sym all) ∙ all_may_lem block c.requires.1,
      ap (λ (vs : List Variable). progressed c.args.from (values_of memory vs)) (sym all),
      ap (λ (vs : List Variable). sets c.args.out.now c.args.from.at (stuffed (values_of memory vs))) (sym all),
    )

pub at-start-requires : goal.at-start-requires
at-start-requires c = omega (arith, c.loop-i-test.true, c.from-i-end.ensures, few c.args.block.now c.requires.1, c.requires.0)

pub bounds-block-at : goal.bounds-block-at
bounds-block-at c = omega (arith, c.loop-i-test.true, c.from-i-end.ensures, few c.args.block.now c.requires.1, c.requires.0)

pub slice_bounds-put_all-end : goal.slice_bounds-put_all-end
slice_bounds-put_all-end c =
    let block = c.args.block.now in
    let l = c.loop-i in
    let inside : l.i < scope_count block = omega (arith, c.loop-i-test.true, c.from-i-end.ensures) in
    let some : 0 < scope_count block - l.i = omega (arith, inside) in
    let at = scope_place + 1 + l.i * 5 in
    omega (arith, (may block (scope_count block - l.i) at some c.from.result c.at-start.result c.from.ensures c.at-start.ensures l.invariant.2).0, c.requires.2)

pub put_all-progress-requires : goal.put_all-progress-requires
put_all-progress-requires c =
    let block = c.args.block.now in
    let l = c.loop-i in
    let inside : l.i < scope_count block = omega (arith, c.loop-i-test.true, c.from-i-end.ensures) in
    let some : 0 < scope_count block - l.i = omega (arith, inside) in
    let at = scope_place + 1 + l.i * 5 in
    let place = ap (λ (p : Progress). p.at) l.invariant.3 in
    omega (arith, place, within block (scope_count block - l.i) at some c.from.result c.at-start.result c.from.ensures c.at-start.ensures c.args.memory.now, l.invariant.0, c.requires.3)

pub loop-i-preserved : goal.loop-i-preserved
loop-i-preserved c =
    let block = c.args.block.now in
    let l = c.loop-i in
    let inside : l.i < scope_count block = omega (arith, c.loop-i-test.true, c.from-i-end.ensures) in
    let some : 0 < scope_count block - l.i = omega (arith, inside) in
    let at = scope_place + 1 + l.i * 5 in
    let memory = c.args.memory.now in
    let next = behind_next block l.i inside in (
      c.put_all-progress.auto.out ∙ l.invariant.0,
      omega arith,
      rw next at (may block (scope_count block - l.i) at some c.from.result c.at-start.result c.from.ensures c.at-start.ensures l.invariant.2).1,
      rw next at (progress_kept block (scope_count block - l.i) at some c.from.result c.at-start.result c.from.ensures c.at-start.ensures memory l.progress c.put_all-progress.result l.out c.put_all-progress.new.out c.put_all-progress.ensures ∙ l.invariant.3),
      rw next at (buffer_kept block (scope_count block - l.i) at some c.from.result c.at-start.result c.from.ensures c.at-start.ensures memory l.progress c.put_all-progress.result l.out c.put_all-progress.new.out c.put_all-progress.ensures ∙ l.invariant.4),
    )

pub returns : goal.returns
returns c =
    let block = c.args.block.now in
    let l = c.loop-i in
    let none : scope_count block - l.i ≡ 0 = omega (arith, c.loop-i-test.false, c.from-i-end.ensures) in
    record {
      progress = sym (progressed_none l.progress l.invariant.1) ∙ rw none at l.invariant.3;
      buffer = rw none at l.invariant.4;
    }
