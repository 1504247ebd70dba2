-- Refused before a byte is touched, or the data mixed in by the mask, for every gate that has this memory.
use mathlib.Core.Path.{refl, sym, ◌∙◌}
use Prim.Native.Nat.{◌*◌}
use native.Mathlib.Omega.{arith}
use Rattle.std.proofs.lemmas.Result.{err_from_is_err_and}
use lib.ListN.{length-take, length-drop}
use Rattle.document.specs.Stores.{mask_stored}
use Rattle.document.specs.Fields.{size_field}
use Rattle.document.specs.Commands.{written_masked, served}
use Rattle.serve_writes.specs.WriteStatus.{IsWritten}
use Rattle.serve_writes.proofs.WriteLaws.{values_are, masks_are, wrote_refused, wrote_done}
use Rattle.serve_writes.proofs.write_masked.Goals as goal

pub returns-in_err-block : goal.returns-in_err-block
unfolding served
returns-in_err-block c =
    let p = err_from_is_err_and c.from_residual.result c.from_residual.ensures.1 in
    λ g same.
    rw (p.1, p.2)
    (wrote_refused c.args.service c.args.body.now (2 * size_field c.args.service c.args.body.now) c.in_err-block.field-0.0 g (written_masked g c.args.service c.args.body.now) c.args.memory.now same (c.in_err-block.ensures _ refl))

pub overflow_add-to : goal.overflow_add-to
overflow_add-to c =
    let w : IsWritten c.args.service c.args.body.now (2 * size_field c.args.service c.args.body.now) c.in_ok-block.block = c.in_ok-block.ensures _ refl in
    record { fits = omega (arith, w.found.small, w.found.near) }

pub overflow_add-end : goal.overflow_add-end
overflow_add-end c =
    let w : IsWritten c.args.service c.args.body.now (2 * size_field c.args.service c.args.body.now) c.in_ok-block.block = c.in_ok-block.ensures _ refl in
    record { fits = omega (arith, w.found.small, w.found.near) }

pub slice_bounds-mix-end : goal.slice_bounds-mix-end
slice_bounds-mix-end c =
    let w : IsWritten c.args.service c.args.body.now (2 * size_field c.args.service c.args.body.now) c.in_ok-block.block = c.in_ok-block.ensures _ refl in
    omega (arith, w.found.place, w.found.size, w.found.fits)

pub slice_bounds-mix-end-2 : goal.slice_bounds-mix-end-2
slice_bounds-mix-end-2 c =
    let w : IsWritten c.args.service c.args.body.now (2 * size_field c.args.service c.args.body.now) c.in_ok-block.block = c.in_ok-block.ensures _ refl in
    omega (arith, w.found.place, w.found.size, w.found.fits)

pub mix-requires : goal.mix-requires
mix-requires c =
    let w : IsWritten c.args.service c.args.body.now (2 * size_field c.args.service c.args.body.now) c.in_ok-block.block = c.in_ok-block.ensures _ refl in (
      simp length-take (omega (arith, w.inside, c.requires.1)),
      simp (length-take, length-drop) (omega (arith, w.found.place, w.found.size, w.found.fits)),
    )

pub returns : goal.returns
unfolding served
returns c =
    let w : IsWritten c.args.service c.args.body.now (2 * size_field c.args.service c.args.body.now) c.in_ok-block.block = c.in_ok-block.ensures _ refl in
    λ g same.
    wrote_done c.args.service c.args.body.now _ c.in_ok-block.block w
    g (written_masked g c.args.service c.args.body.now) _ refl
    (c.mix.ensures ∙ (λ i. mask_stored (sym same i) (w.found.address i) (values_are c.args.service c.args.body.now _ c.in_ok-block.block w.found i) (masks_are c.args.service c.args.body.now _ c.in_ok-block.block w.found i)))
