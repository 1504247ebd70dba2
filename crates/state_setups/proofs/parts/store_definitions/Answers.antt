-- What is left to store gives the whole.
use mathlib.Core.Path.{◌≡◌, refl, ap, ◌∙◌}
use mathlib.Core.List.{List}
use Prim.Native.Nat.{ℕ, ◌+◌, ◌-◌, ◌*◌}
use native.Mathlib.Nat.{sub-zero}
use native.Mathlib.Omega.{arith}
use lib.ListN.{drop}
use lib.Seq.{sets}
use Rattle.document.specs.Variables.{definition_width, definitions_in}
use Rattle.state_block.specs.Layout.{encoded_definitions}
use Rattle.state_setups.proofs.Turns.{left_one, definition_stored}
use Rattle.state_setups.proofs.parts.store_definitions.Goals as goal

pub loop-k-init : goal.loop-k-init
loop-k-init c = let z : c.args.at + 0 * 5 ≡ c.args.at = omega arith in (refl, rw sub-zero c.requires.0, rw (z, sub-zero))

pub loop-k-preserved : goal.loop-k-preserved
loop-k-preserved c =
    let l = c.loop-k in
    let width = c.address_width-width in
    let a = c.args in
    let part = a.part.now in
    let left = c.loop-k-test.true in
    let wide = width.ensures.0 in
    let next : a.at + (l.k + 1) * 5 ≡ a.at + l.k * 5 + 5 = omega arith in (
      c.put_definition.auto.block ∙ l.invariant.0,
      omega (arith, left_one a.n l.k (definition_width a.ex) left, wide, l.invariant.1),
      ap (λ (n : ℕ). sets c.put_definition.new.block n (encoded_definitions (definitions_in a.ex (a.n - (l.k + 1)) (drop (l.read + (1 + width.result)) part)))) next
          ∙ ap (λ (b : List ℕ). sets b (a.at + l.k * 5 + 5) (encoded_definitions (definitions_in a.ex (a.n - (l.k + 1)) (drop (l.read + (1 + width.result)) part)))) c.put_definition.ensures
          ∙ definition_stored a.ex part l.block l.read (a.at + l.k * 5) a.n l.k width.result _ _ left wide refl c.number_at-address.ensures.value
          ∙ l.invariant.2,
    )

pub returns : goal.returns
returns c =
    let l = c.loop-k in
    let z : c.args.n - l.k ≡ 0 = omega arith in
    rw z at l.invariant.2
