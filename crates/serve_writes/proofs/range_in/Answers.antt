-- What neither the fields nor the gate refuses is written.
use Rattle.std.proofs.lemmas.Result.{err_from_is_err_and}
use Rattle.serve_writes.proofs.WriteLaws.{unwritten_by_fields, unwritten_by_range, is_written}
use Rattle.serve_writes.proofs.range_in.Goals as goal

pub returns-in_err-block : goal.returns-in_err-block
returns-in_err-block c =
    let p = err_from_is_err_and c.from_residual.result c.from_residual.ensures.1 in
    λ n e. rw (p.1, p.2) (unwritten_by_fields c.args.service c.args.body.now n c.in_err-block.field-0.0 (c.in_err-block.ensures n e))

pub returns-in_err-write_status : goal.returns-in_err-write_status
returns-in_err-write_status c =
    let p = err_from_is_err_and c.from_residual-in_err-write_status.result c.from_residual-in_err-write_status.ensures.1 in
    λ n e.
    rw (p.1, p.2)
    (unwritten_by_range c.args.service c.args.body.now n c.in_err-write_status.field-0.0 c.in_ok-block.block (c.in_ok-block.ensures n e) c.in_err-write_status.ensures)

pub returns : goal.returns
returns c = λ n e. is_written c.args.service c.args.body.now n c.in_ok-block.block (c.in_ok-block.ensures n e) (λ g. c.in_ok-write_status.ensures g)
