-- What stands behind the front is stored into on its own.
use mathlib.Core.Path.{◌≡◌, ap, ◌∙◌}
use mathlib.Core.List.{List, ◌++◌}
use Prim.Native.Nat.{ℕ, ◌+◌, ◌-◌}
use native.Mathlib.Omega.{arith}
use lib.ListN.{take, drop}
use lib.Seq.{sets, take-take}
use Rattle.document.specs.Areas.{bytes_at}
use Rattle.state_block.specs.Places.{body_place, command_place}
use Rattle.bytes_fields.proofs.Ranges.{split_stored}
use Rattle.memory_ranges.proofs.Stored.{bytes_agree}
use Rattle.application_block.proofs.copy_down.Goals as goal

pub returns : goal.returns
returns c =
    let block = c.args.state.now in
    let count = c.args.count in
    let halves = c.split_at_mut-front.ensures in
    let k : (body_place + count) - body_place ≡ count = omega arith in
    (λ i. halves.front i ++ c.copy_in.ensures i)
    ∙ (λ i. take command_place block ++ sets (halves.back i) 0 (bytes_at (halves.front i) body_place (k i)))
    ∙ ap (λ (bytes : List ℕ). take command_place block ++ sets (drop command_place block) 0 bytes) (bytes_agree (take command_place block) block command_place body_place count (take-take command_place command_place block (omega arith)) (omega (arith, c.requires.1)))
    ∙ split_stored command_place block (bytes_at block body_place count) (omega arith)
