-- The part with the definitions is all of the data, and what stands behind the scope is there already.
use mathlib.Core.Path.{◌∙◌}
use mathlib.Core.List.{◌++◌}
use native.Mathlib.Omega.{arith}
use lib.ListN.{take}
use lib.Seq.{sets, length-sets}
use Rattle.document.specs.Variables.{variables_in}
use Rattle.variables_list.specs.State.{no_variables, kept}
use Rattle.scope_state.proofs.Accepted.{SetupTaken, taken_facts}
use Rattle.bytes_fields.proofs.Ranges.{split_stored}
use Rattle.state_block.specs.Layout.{data_to, encoded_variables, encoded_scope}
use Rattle.state_block.specs.Places.{scope_place}
use Rattle.state_block.proofs.Parts.{scope_length}
use Rattle.state_block.proofs.Stored.{scope_stored}
use Rattle.state_setups.proofs.Places.{data_part}
use Rattle.state_setups.proofs.scoping.store_scope.Goals as goal

pub store_variables-requires : goal.store_variables-requires
store_variables-requires c =
    let a = c.args in
    let halves = c.split_at_mut-front.ensures in
    let facts : SetupTaken a.ex (data_to a.block.now a.to) = taken_facts a.ex (data_to a.block.now a.to) c.requires.3 in
    let same = data_part a.block.now a.to c.split_at_mut-front.result.0.now halves.front c.requires.1 c.requires.2 in
    rw same (facts.few, omega (arith, facts.right), omega (arith, halves.back_len, c.requires.0))

pub returns : goal.returns
unfolding encoded_scope
returns c =
    let a = c.args in
    let block = a.block.now in
    let halves = c.split_at_mut-front.ensures in
    let same = data_part block a.to c.split_at_mut-front.result.0.now halves.front c.requires.1 c.requires.2 in
    let vs = variables_in a.ex (data_to block a.to) in
    (λ i. halves.front i ++ c.store_variables.ensures i)
    ∙ (λ i. take scope_place block ++ sets (halves.back i) 0 (encoded_variables (kept (variables_in a.ex (same i)))))
    ∙ split_stored scope_place block (encoded_variables (kept vs)) (omega (arith, c.requires.0))
    ∙ scope_stored block c.requires.0 (λ i. (c.slice_known-1.given i).fits) (record { variables = kept vs })
    (scope_length (record { variables = kept vs }) (length-sets no_variables 0 vs))
