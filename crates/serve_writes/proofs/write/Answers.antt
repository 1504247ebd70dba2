-- Refused before a byte is touched, or the data stored at the address, for every gate that has this memory.
use mathlib.Core.Path.{refl, sym, ◌∙◌}
use native.Mathlib.Nat.{one-mul}
use native.Mathlib.Omega.{arith}
use Rattle.std.proofs.lemmas.Result.{err_from_is_err_and}
use lib.ListN.{length-take}
use Rattle.document.specs.Stores.{stored}
use Rattle.document.specs.Fields.{size_field}
use Rattle.document.specs.Commands.{written, served}
use Rattle.serve_writes.specs.WriteStatus.{IsWritten}
use Rattle.serve_writes.proofs.WriteLaws.{values_are, wrote_refused, wrote_done}
use Rattle.serve_writes.proofs.write.Goals as goal

pub returns-in_err-block : goal.returns-in_err-block
unfolding served
returns-in_err-block c =
    let p = err_from_is_err_and c.from_residual.result c.from_residual.ensures.1 in
    λ g same.
    rw (p.1, p.2)
    (wrote_refused c.args.service c.args.body.now (size_field c.args.service c.args.body.now) c.in_err-block.field-0.0 g (written g c.args.service c.args.body.now) c.args.memory.now same (c.in_err-block.ensures _ (sym (one-mul _))))

pub overflow_add-to : goal.overflow_add-to
overflow_add-to c =
    let w : IsWritten c.args.service c.args.body.now (size_field c.args.service c.args.body.now) c.in_ok-block.block = c.in_ok-block.ensures _ (sym (one-mul _)) in
    record { fits = omega (arith, w.found.small, w.found.near) }

pub slice_bounds-copy_in-end : goal.slice_bounds-copy_in-end
slice_bounds-copy_in-end c =
    let w : IsWritten c.args.service c.args.body.now (size_field c.args.service c.args.body.now) c.in_ok-block.block = c.in_ok-block.ensures _ (sym (one-mul _)) in
    omega (arith, w.found.place, w.found.size, w.found.fits)

pub copy_in-requires : goal.copy_in-requires
copy_in-requires c =
    let w : IsWritten c.args.service c.args.body.now (size_field c.args.service c.args.body.now) c.in_ok-block.block = c.in_ok-block.ensures _ (sym (one-mul _)) in
    simp length-take (omega (arith, w.inside, c.requires.1))

pub returns : goal.returns
unfolding served
returns c =
    let w : IsWritten c.args.service c.args.body.now (size_field c.args.service c.args.body.now) c.in_ok-block.block = c.in_ok-block.ensures _ (sym (one-mul _)) in
    λ g same.
    wrote_done c.args.service c.args.body.now _ c.in_ok-block.block w
    g (written g c.args.service c.args.body.now) _ refl
    (c.copy_in.ensures ∙ (λ i. stored (sym same i) (w.found.address i) (values_are c.args.service c.args.body.now _ c.in_ok-block.block w.found i)))
