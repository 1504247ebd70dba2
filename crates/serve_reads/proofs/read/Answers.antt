-- The status alone, or the bytes of the range, for every gate that has this memory.
use mathlib.Core.Path.{◌≡◌, sym, ap, ◌∙◌}
use mathlib.Core.List.{[]}
use Prim.Native.Nat.{ℕ, ◌+◌, ◌-◌}
use native.Mathlib.Omega.{arith}
use lib.ListN.{take, drop}
use Rattle.document.specs.Numbers.{done}
use Rattle.document.specs.Areas.{bytes_at}
use Rattle.line_wire.proofs.Writing.{told_as}
use Rattle.serve_reads.proofs.ReadLaws.{read_refused, read_done}
use Rattle.serve_reads.proofs.read.Goals as goal

size_of : (from size : ℕ) → from + size - from ≡ size
size_of from size = omega arith

pub returns-in-Ok : goal.returns-in-Ok
returns-in-Ok c =
    let a = c.args in
    let b = c.in-Ok.block in
    λ g same.
    let bytes : take (b.address + b.size - b.address) (drop b.address a.memory.now) ≡ bytes_at g.memory b.address b.size =
    (λ i. take (size_of b.address b.size i) (drop b.address (sym same i))) in
    told_as _ _
    ((λ i. record { status = done; body = bytes i }) ∙ read_done a.service a.body.now b g c.in-Ok.ensures)
    c.done_with.ensures

pub returns-in-Err : goal.returns-in-Err
returns-in-Err c =
    λ g same.
    told_as _ _
    (ap (λ (n : ℕ). record { status = n; body = [] }) c.from.ensures ∙ read_refused c.args.service c.args.body.now g c.in-Err.status c.in-Err.ensures)
    c.status_alone.ensures
