-- Below the lowest kind that is served nothing else of an entry is looked at.
use Prim.Native.Nat.{◌/◌, ◌%◌}
use lib.Dec.{eqb}
use borrow.Author.Tests.{lt-ltb, le-ltb}
use Rattle.codes_table.proofs.reading.service_in.Goals as goal

pub returns-then-entry-lt-FAST : goal.returns-then-entry-lt-FAST
returns-then-entry-lt-FAST c = rw (lt-ltb _ _ c.if-entry-lt-FAST.true)

pub returns : goal.returns
returns c =
    let e = c.args.entry in
    rw (le-ltb e 8192 c.if-entry-lt-FAST.false)
    (λ i. record { operation = c.operation_in.ensures i; ex = eqb (e / 512 % 2) 1; size = e / 64 % 8 })
