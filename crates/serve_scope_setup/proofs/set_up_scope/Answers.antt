-- The scope says its status, and is stored as it is then.
use mathlib.Core.Path.{refl, sym, ap, ◌∙◌}
use borrow.Author.Tests.{eqb-false}
use lib.Seq.{sets}
use Rattle.std.proofs.lemmas.Result.{err_from_is_err_and}
use Rattle.document.specs.Numbers.{done}
use Rattle.document.specs.declared.Operation.TheVariants.{SetUpScope}
use Rattle.scope_state.proofs.Accepted.{next_taken, next_refused}
use Rattle.state_parts.specs.State.{gate_of, with_scope}
use Rattle.state_block.specs.Places.{scope_place}
use Rattle.state_block.specs.Layout.{data_to, decoded_scope, decoded_instruments, encoded_instruments}
use Rattle.serve_recorder.specs.Operates.{status_alone}
use Rattle.serve_recorder.proofs.Changing.{settles, same_block, never_done}
use Rattle.serve_scope_setup.proofs.Statuses.{scope_set_up_lem}
use Rattle.serve_scope_setup.proofs.set_up_scope.Goals as goal

pub store_scope-requires : goal.store_scope-requires
store_scope-requires c = (c.requires.0, c.requires.1, c.requires.2, sym c.in_ok-set_up_status.ensures)

pub returns-in_err-set_up_status : goal.returns-in_err-set_up_status
returns-in_err-set_up_status c =
    let block = c.args.state.now in
    let service = c.args.service in
    let body = data_to block c.args.to in
    let e = c.in_err-set_up_status.field-0.0 in
    let refused = err_from_is_err_and c.from_residual.result c.from_residual.ensures.1 in
    let said = c.in_err-set_up_status.ensures in
    let same = sym (next_refused service.ex body (decoded_scope block) (λ is. eqb-false _ _ (never_done e) (said ∙ is))) in
    λ memory.
    rw (refused.1, refused.2)
    (settles SetUpScope refl block memory service body _ _
    (ap status_alone said ∙ scope_set_up_lem (gate_of (decoded_instruments block) memory) service body)
    (same_block block c.requires.0 (λ i. (c.slice_known-1.given i).fits) _ (λ i. with_scope (decoded_instruments block) (same i))))

pub returns : goal.returns
returns c =
    let block = c.args.state.now in
    let service = c.args.service in
    let body = data_to block c.args.to in
    let taken = c.in_ok-set_up_status.ensures in
    let next = sym (next_taken service.ex body (decoded_scope block) (sym taken)) in
    λ memory.
    settles SetUpScope refl block memory service body done _
    (ap status_alone taken ∙ scope_set_up_lem (gate_of (decoded_instruments block) memory) service body)
    (c.store_scope.ensures ∙ (λ i. sets block scope_place (encoded_instruments (with_scope (decoded_instruments block) (next i)))))
