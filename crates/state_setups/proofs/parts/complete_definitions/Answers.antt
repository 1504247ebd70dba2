-- A byte, then zeros.
use mathlib.Core.Path.{ap, ◌∙◌}
use Prim.Native.Nat.{ℕ, ◌+◌, ◌-◌, ◌*◌}
use native.Mathlib.Omega.{arith}
use lib.ListN.{set, replicate, length-set}
use lib.Seq.{sets}
use Rattle.state_setups.proofs.parts.complete_definitions.Goals as goal

pub clear-requires : goal.clear-requires
clear-requires c =
    simp length-set (omega (arith, c.from-n.ensures, c.requires.0, c.requires.1))

pub returns : goal.returns
returns c =
    let a = c.args in
    c.clear.ensures
    ∙ ap (λ (n : ℕ). sets (set a.block.now a.at a.count) (a.at + 1 + n * 5) (replicate ((8 - n) * 5) 0)) c.from-n.ensures
