-- Each return is a case of the definition.
use mathlib.Core.Path.{◌≡◌, sym, ap, ◌∙◌}
use Prim.Native.Nat.{ℕ, ◌+◌}
use native.Mathlib.Omega.{arith}
use lib.ListN.{get_or}
use Rattle.document.specs.Variables.{set_size}
use Rattle.variables_list.specs.State.{variables_of}
use Rattle.scope_state.proofs.Given.{absent_status, long_status, short_status}
use Rattle.state_block.specs.Places.{scope_place}
use Rattle.state_block.specs.Layout.{decoded_scope}
use Rattle.serve_scope.proofs.Walked.{left_at, few, all_left}
use Rattle.serve_scope.proofs.reading.read_status.Goals as goal

pub returns-then-count-eq0 : goal.returns-then-count-eq0
unfolding decoded_scope
returns-then-count-eq0 c = sym (absent_status (decoded_scope c.args.block.now) (omega (arith, c.if-count-eq0.true, c.from-count.ensures)))

pub set_size-requires : goal.set_size-requires
set_size-requires c =
    (omega (arith, few c.args.block.now c.requires.1, c.from-count.ensures), omega (arith, c.requires.0))

pub returns-then-set_size-gt-MOST_DATA : goal.returns-then-set_size-gt-MOST_DATA
unfolding decoded_scope
returns-then-set_size-gt-MOST_DATA c =
    let counted : c.from-count.result ≡ get_or (c.args.block.now) scope_place 0 = c.from-count.ensures in
    let some : (decoded_scope (c.args.block.now)).variables.count ≡ 0 → ⊥ = λ none. c.if-count-eq0.false (counted ∙ none) in
    let size : c.set_size.result ≡ set_size (variables_of (decoded_scope (c.args.block.now)).variables) = c.set_size.ensures.0
    ∙ ap (λ (n : ℕ). set_size (left_at (c.args.block.now) n (scope_place + 1))) counted
    ∙ ap set_size (sym (all_left (c.args.block.now) (few (c.args.block.now) c.requires.1))) in
    sym (long_status (decoded_scope (c.args.block.now)) some (omega (arith, c.if-set_size-gt-MOST_DATA.true, size)))

pub returns : goal.returns
unfolding decoded_scope
returns c =
    let counted : c.from-count.result ≡ get_or (c.args.block.now) scope_place 0 = c.from-count.ensures in
    let some : (decoded_scope (c.args.block.now)).variables.count ≡ 0 → ⊥ = λ none. c.if-count-eq0.false (counted ∙ none) in
    let size : c.set_size.result ≡ set_size (variables_of (decoded_scope (c.args.block.now)).variables) = c.set_size.ensures.0
    ∙ ap (λ (n : ℕ). set_size (left_at (c.args.block.now) n (scope_place + 1))) counted
    ∙ ap set_size (sym (all_left (c.args.block.now) (few (c.args.block.now) c.requires.1))) in
    sym (short_status (decoded_scope (c.args.block.now)) some (omega (arith, c.if-set_size-gt-MOST_DATA.false, size)))
