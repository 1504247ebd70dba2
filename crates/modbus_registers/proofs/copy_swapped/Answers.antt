-- What is left to store gives the whole: one register a turn.
use mathlib.Core.Path.{◌≡◌, refl, ◌∙◌}
use Prim.Native.Nat.{◌+◌, ◌*◌}
use native.Mathlib.Nat.{add-zero}
use native.Mathlib.Omega.{arith}
use lib.ListN.{length-set}
use Rattle.modbus_registers.proofs.Turns.{stored_turn, turned_ended}
use Rattle.modbus_registers.proofs.copy_swapped.Goals as goal

pub loop-register-init : goal.loop-register-init
loop-register-init c = (refl, rw add-zero)

pub bounds-to-k-in-loop-register : goal.bounds-to-k-in-loop-register
bounds-to-k-in-loop-register c = simp length-set (omega arith)

pub loop-register-preserved : goal.loop-register-preserved
loop-register-preserved c =
    let l = c.loop-register in
    let a = c.args in
    let next : 2 * (l.register + 1) ≡ 2 * l.register + 2 = omega arith in
    (simp length-set l.invariant.0, rw next (stored_turn l.to a.from.now a.at (2 * l.register) (omega arith) ∙ l.invariant.1))

pub returns : goal.returns
returns c = rw (turned_ended c.args.from.now (2 * c.loop-register.register) (omega arith)) at c.loop-register.invariant.1
