-- What neither the fields nor the range refuse is read.
use mathlib.Core.Path.{sym}
use native.Mathlib.Nat.{zero-mul}
use Rattle.serve_reads.proofs.ReadLaws.{is_read}
use Rattle.serve_reads.proofs.range_in.Goals as goal

pub returns : goal.returns
returns c = is_read c.args.service c.args.body.now c.in_ok-block.block (c.in_ok-block.ensures 0 (sym (zero-mul _))) (sym c.in_ok-read_status.ensures)
