-- Refused, nothing changes; else the recorder that was stored starts.
use mathlib.Core.Path.{◌≡◌, refl, sym, ap, subst, ◌∙◌}
use mathlib.Core.List.{List, []}
use Prim.Native.Nat.{ℕ, ◌-◌, ◌<◌}
use borrow.Author.Tests.{eqb-false}
use lib.ListN.{get_or}
use lib.Seq.{sets}
use Rattle.std.proofs.lemmas.Result.{err_from_is_err_and}
use Rattle.document.specs.Bytes.{AllBytes}
use Rattle.document.specs.Commands.{served}
use Rattle.document.specs.declared.Operation.TheVariants.{PrepareAndStart, Start}
use Rattle.document.proofs.Bytes.{all_of_bytes}
use Rattle.codes_table.specs.Statuses.{outcome_number}
use Rattle.recorder_state.proofs.Answers.{both-taken, both-refused}
use Rattle.document_outcomes.specs.Known.{known_as}
use Rattle.state_parts.specs.State.{gate_of, with_recorder}
use Rattle.state_parts.proofs.ByteLaws.{all_range}
use Rattle.state_byte.specs.After.{instruments_after}
use Rattle.state_block.specs.Places.{body_place, scope_place}
use Rattle.state_block.specs.Layout.{data_to, decoded_recorder, decoded_instruments, encoded_instruments}
use Rattle.serve_recorder.specs.Operates.{status_alone, Settles}
use Rattle.serve_recorder.proofs.Statuses.{recorder_prepared_lem}
use Rattle.serve_recorder.proofs.Changing.{settles, same_block, never_done}
use Rattle.serve_recorder.proofs.InARow.{between, started_done, started_stored}
use Rattle.serve_recorder.proofs.recording.prepare_and_start.Goals as goal

pub returns-in_err-prepare : goal.returns-in_err-prepare
returns-in_err-prepare c =
    let block = c.args.state.now in
    let service = c.args.service in
    let body = data_to block c.args.to in
    let e = c.in_err-prepare.field-0.0 in
    let refused = err_from_is_err_and c.from_residual.result c.from_residual.ensures.1 in
    let said = c.in_err-prepare.ensures.0 in
    let stays : c.prepare.new.state ≡ block = rw (never_done e) at c.in_err-prepare.ensures.1 in
    let same = sym (both-refused (decoded_recorder block) service.ex body (λ is. eqb-false _ _ (never_done e) (said ∙ is))) in
    λ memory.
    rw (refused.1, refused.2)
    (settles PrepareAndStart refl block memory service body _ _
    (ap status_alone said ∙ recorder_prepared_lem (gate_of (decoded_instruments block) memory) service body)
    (stays ∙ same_block block c.requires.0 (λ i. (c.slice_known-1.given i).fits) _ (λ i. with_recorder (decoded_instruments block) (same i))))

pub returns : goal.returns
returns c =
    let block = c.args.state.now in
    let service = c.args.service in
    let body = data_to block c.args.to in
    let small : (i : ℕ) → get_or block i 0 < 256 = (λ i. (c.slice_known-1.given i).fits) in
    let all : AllBytes body = all_range block body_place (c.args.to - body_place) (all_of_bytes block small) in
    let taken = c.in_ok-prepare.ensures.0 in
    let here : c.prepare.new.state ≡ between block c.requires.0 small service.ex body all = c.in_ok-prepare.ensures.1 in
    let next = sym (both-taken (decoded_recorder block) service.ex body (sym taken)) in
    λ memory.
    let did =
    subst (λ (l : List ℕ). Settles (served (gate_of (decoded_instruments l) memory) (known_as Start service) []) (instruments_after Start (decoded_instruments l) service []) l (outcome_number c.start.result) c.start.new.state memory)
    here (c.start.ensures memory service []) in
    settles PrepareAndStart refl block memory service body (outcome_number c.start.result) _
    (started_done block c.requires.0 small service.ex body all memory service [] (outcome_number c.start.result) _ did
    ∙ ap status_alone taken
    ∙ recorder_prepared_lem (gate_of (decoded_instruments block) memory) service body)
    (started_stored block c.requires.0 small service.ex body all memory service [] (outcome_number c.start.result) _ did
    ∙ (λ i. sets block scope_place (encoded_instruments (with_recorder (decoded_instruments block) (next i)))))
