-- What is left to copy gives the whole: one variable a turn; below the place nothing changes.
use mathlib.Core.Bool.{true}
use mathlib.Core.List.{List}
use mathlib.Core.Path.{◌≡◌, refl, ◌∙◌}
use Prim.Native.Nat.{ℕ, ◌+◌, ◌-◌, ◌*◌, ◌<◌, ◌≤◌}
use native.Mathlib.Nat.{add-zero}
use native.Mathlib.Omega.{arith}
use lib.ListN.{drop, get_or}
use borrow.Author.Tests.{leb-true}
use Rattle.document.specs.Areas.{recorded_end, may_be_recorded, bytes_at}
use Rattle.document.specs.Values.{number}
use Rattle.document.specs.Variables.{definitions_in, all_may, set_size}
use Rattle.memory_ranges.proofs.Copies.{stored_length}
use Rattle.variables_sets.proofs.Places.{stored_front, size_first, may_first, variable_kept}
use Rattle.variables_sets.proofs.copy_set.Goals as goal

-- ---- a turn that has read its definition

record Turn (block : List ℕ) (from k count done total width address : ℕ) : Type 0 where
  below : address + width ≤ recorded_end
  may : all_may may_be_recorded (definitions_in true (count - (k + 1)) (drop (from + (k + 1) * 5) block)) ≡ true
  sized : done + width + set_size (definitions_in true (count - (k + 1)) (drop (from + (k + 1) * 5) block)) ≡ total

turn : (block : List ℕ) (from k count done total width address : ℕ) → k < count → width ≡ get_or block (from + k * 5) 0
    → address ≡ number (bytes_at block (from + k * 5 + 1) 4)
    → all_may may_be_recorded (definitions_in true (count - k) (drop (from + k * 5) block)) ≡ true
    → done + set_size (definitions_in true (count - k) (drop (from + k * 5) block)) ≡ total
    → Turn block from k count done total width address
turn block from k count done total width address h ew ea may sized =
    let some : 0 < count - k = omega arith in
    let left : count - (k + 1) ≡ count - k - 1 = omega arith in
    let behind : from + (k + 1) * 5 ≡ from + k * 5 + 5 = omega arith in
    let first = may_first block (from + k * 5) (count - k) width address some ew ea may_be_recorded may in
    record {
      below = leb-true _ _ first.0;
      may = rw (left, behind) first.1;
      sized = rw (left, behind) (omega (arith, size_first block (from + k * 5) (count - k) width address some ew ea, sized));
    }

pub loop-k-init : goal.loop-k-init
loop-k-init c =
    let all : c.args.count - 0 ≡ c.args.count = omega arith in
    let here : c.args.from + 0 * 5 ≡ c.args.from = omega arith in
    record {
      long = refl;
      below = refl;
      may = rw (all, here) c.requires.recordable.may;
      sized = rw (all, here) (omega arith);
      gives = rw (all, here, add-zero);
    }

pub copy_variable-requires : goal.copy_variable-requires
copy_variable-requires c =
    let a = c.args in
    let l = c.loop-k in
    let t = turn a.block.now a.from l.k a.count l.done a.size c.from-width.result c.at-address.result (omega arith) c.from-width.ensures c.at-address.ensures l.invariant.may l.invariant.sized in
    (omega (arith, t.below), omega (arith, t.sized))

pub loop-k-preserved : goal.loop-k-preserved
loop-k-preserved c =
    let a = c.args in
    let l = c.loop-k in
    let v = c.copy_variable in
    let block = a.block.now in
    let bytes = bytes_at l.memory c.at-address.result c.from-width.result in
    let t = turn block a.from l.k a.count l.done a.size c.from-width.result c.at-address.result (omega arith) c.from-width.ensures c.at-address.ensures l.invariant.may l.invariant.sized in
    let left : a.count - (l.k + 1) ≡ a.count - l.k - 1 = omega arith in
    let behind : a.from + (l.k + 1) * 5 ≡ a.from + l.k * 5 + 5 = omega arith in
    record {
      long = stored_length l.memory v.new.memory bytes (a.at + l.done) v.ensures ∙ l.invariant.long;
      below = stored_front l.memory v.new.memory bytes a.at (a.at + l.done) (omega arith) v.ensures ∙ l.invariant.below;
      may = t.may;
      sized = t.sized;
      gives =
          rw (left, behind)
          (variable_kept block (a.from + l.k * 5) (a.count - l.k) c.from-width.result c.at-address.result (omega arith) c.from-width.ensures c.at-address.ensures a.memory.now l.memory v.new.memory a.at l.done
          (omega (arith, t.below)) (omega (arith, t.below)) l.invariant.below v.ensures ∙ l.invariant.gives);
    }

pub returns : goal.returns
returns c =
    let l = c.loop-k in
    let none : c.args.count - l.k ≡ 0 = omega arith in
    rw none at l.invariant.gives
