-- Three numbers behind one another, where there is room for them.
use mathlib.Core.Path.{refl}
use Prim.Native.Nat.{◌*◌}
use native.Mathlib.Omega.{arith}
use borrow.Author.Tests.{lt-ltb, le-ltb}
use lib.ListN.{length-set}
use Rattle.line_captures.specs.Entries.{put_one}
use Rattle.line_captures.specs.Messages.{class_number}
use Rattle.line_captures.proofs.Lists.{three_set}
use Rattle.line_captures.proofs.entries.put.Goals as goal

pub bounds-list-at-then-n-list : goal.bounds-list-at-then-n-list
bounds-list-at-then-n-list c = simp length-set (omega arith)

pub bounds-list-at-then-n-list-2 : goal.bounds-list-at-then-n-list-2
bounds-list-at-then-n-list-2 c = simp length-set (omega arith)

pub returns-then-n-list : goal.returns-then-n-list
unfolding put_one
returns-then-n-list c =
    let a = c.args in
    rw (lt-ltb _ _ c.if-n-list.true, c.from.ensures, c.from-then-n-list.ensures) (three_set a.list.now (a.n * 3) a.place a.found.command (class_number a.found.class))

pub returns-else-n-list : goal.returns-else-n-list
unfolding put_one
returns-else-n-list c = rw (le-ltb _ _ c.if-n-list.false) refl
