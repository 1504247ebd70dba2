-- The sum byte is put like any other byte.
use mathlib.Core.Path.{ap}
use Rattle.line_wire.specs.declared.doubling.Progress.{Progress}
use Rattle.line_wire.proofs.doubling.put_sum.Goals as goal

pub put-end-requires : goal.put-end-requires
put-end-requires c = rw c.sum_byte-byte.ensures c.requires

pub returns : goal.returns
returns c =
    let p = c.put-end in
    let b = c.sum_byte-byte.ensures in
    record { end = rw b at (ap (λ (q : Progress). q.at) p.ensures.progress); buffer = rw b at p.ensures.buffer }
