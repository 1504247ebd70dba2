-- The definitions, the count in front of them, and zeros behind them.
use mathlib.Core.Path.{refl, ◌∙◌}
use Prim.Native.Nat.{ℕ, ◌+◌, ◌-◌, ◌*◌}
use lib.ListN.{get_or, set, drop, replicate}
use lib.Seq.{sets}
use Rattle.document.specs.Variables.{definitions_in}
use Rattle.state_block.specs.Layout.{encoded_definitions}
use Rattle.state_setups.proofs.Padded.{part_stored}
use Rattle.state_setups.proofs.parts.store_variables.Goals as goal

pub returns : goal.returns
returns c =
    let a = c.args in
    let part = a.part.now in
    let n : ℕ = get_or part 0 0 in
    c.complete_definitions.ensures
    ∙ (λ i. sets (set (c.store_definitions.ensures i) a.at n) (a.at + 1 + n * 5) (replicate ((8 - n) * 5) 0))
    ∙ (λ i. sets (set (sets a.block.now (a.at + 1) (encoded_definitions (definitions_in a.ex (c.from.ensures i) (drop 1 part)))) a.at n) (a.at + 1 + n * 5) (replicate ((8 - n) * 5) 0))
    ∙ part_stored a.ex a.block.now part a.at n refl c.requires.0
