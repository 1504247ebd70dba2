-- Head and bytes, one behind the other.
use mathlib.Core.Path.{◌≡◌, sym, ap, ◌∙◌}
use mathlib.Core.List.{List, [], ◌∷◌}
use Prim.Native.Nat.{ℕ, ◌-◌, ◌≤◌}
use native.Mathlib.Omega.{arith}
use lib.ListN.{length}
use lib.Seq.{sets}
use Rattle.document.specs.Numbers.{most_data}
use Rattle.document.specs.Areas.{bytes_at}
use Rattle.memory_ranges.proofs.Stored.{bytes_before}
use Rattle.bytes_fields.proofs.Ranges.{bytes_length}
use Rattle.state_block.specs.Places.{body_place, application_place, command_place}
use Rattle.state_block.proofs.Stored.{command_stored}
use Rattle.application_block.proofs.send.Goals as goal

pub returns : goal.returns
returns c =
    let block = c.args.state.now in
    let count : ℕ = c.args.to - body_place in
    let body : List ℕ = bytes_at block body_place count in
    let few : count ≤ most_data = omega (arith, c.requires.2) in
    let width : length body ≡ count = bytes_length block body_place count (omega (arith, c.requires.0, few)) in
    let headed = sets block application_place (1 ∷ count ∷ 0 ∷ []) in
    c.copy_down.ensures
    ∙ ap (sets headed command_place) (bytes_before (1 ∷ count ∷ 0 ∷ []) block application_place body_place count (omega (arith, few)))
    ∙ ap (λ (n : ℕ). sets block application_place (1 ∷ n ∷ 0 ∷ body)) (sym width)
    ∙ command_stored block c.requires.0 (λ i. (c.slice_known-1.given i).fits) body (omega (arith, width, few))
