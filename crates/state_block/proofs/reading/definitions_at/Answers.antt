-- What is left to read gives the whole.
use mathlib.Core.Path.{◌≡◌, refl, ap, ◌∙◌}
use Prim.Native.Nat.{ℕ, ◌-◌}
use mathlib.Core.Bool.{true}
use native.Mathlib.Omega.{arith}
use lib.ListN.{length-set, drop}
use Rattle.document.specs.Variables.{definitions_in}
use Rattle.state_block.specs.Layout.{decoded_definitions}
use Rattle.state_block.proofs.Definitions.{definitions_read}
use Rattle.state_block.proofs.reading.definitions_at.Goals as goal

pub loop-k-init : goal.loop-k-init
unfolding decoded_definitions
loop-k-init c = (refl, ap (λ (n : ℕ). definitions_in true 8 (drop n c.args.block.now)) (omega arith))

pub loop-k-preserved : goal.loop-k-preserved
loop-k-preserved c =
    let l = c.loop-k in
    (simp length-set l.invariant.0, definitions_read c.args.block.now c.args.from l.k l.list c.definition_at.result (omega arith) c.definition_at.ensures ∙ l.invariant.1)

pub returns : goal.returns
returns c = let z : 8 - c.loop-k.k ≡ 0 = omega arith in rw z at c.loop-k.invariant.1
