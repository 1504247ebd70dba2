-- What is copied to the block's front is a store there.
use mathlib.Core.Path.{◌∙◌}
use Rattle.bytes_fields.proofs.Ranges.{part_stored}
use Rattle.bytes_fields.proofs.put_head.Goals as goal
use native.Mathlib.Omega.{arith}
use lib.ListN.{length-take}

pub returns : goal.returns
returns c =
    let e = c.copy_from_slice.ensures in
    rw (← e.after) (part_stored c.copy_from_slice.new.self c.args.block.now 0 6 (e.len ∙ simp length-take (omega arith)) c.requires)
