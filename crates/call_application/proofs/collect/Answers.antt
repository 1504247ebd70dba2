-- Refused, nothing changes; else the command is handed out.
use mathlib.Core.Path.{sym, ◌∙◌}
use Rattle.state_block.specs.Layout.{decoded}
use Rattle.state_parts.proofs.Parts.{parts_of_lem}
use Rattle.call_checks.proofs.ApplicationNumbers.{collect_known}
use Rattle.codes_table.proofs.Refusals.{refusal_some}
use Rattle.call_checks.proofs.Settled.{block_known}
use Rattle.call_checks.specs.Promises.{block_sound}
use Rattle.call_application.proofs.Calls.{collect_refused, collect_taken}
use Rattle.call_application.proofs.collect.Goals as goal

pub returns-in-Err : goal.returns-in-Err
returns-in-Err c =
    let args = c.args in
    collect_refused args.state.now args.out.now c.from.result (c.from.ensures ∙ c.in-Err.ensures) (λ e. refusal_some c.in-Err.refusal (sym c.from.ensures ∙ e))

pub collect-requires : goal.collect-requires
collect-requires c =
    let args = c.args in
    let block = args.state.now in
    let known = collect_known (block_sound block) args.out.now (sym c.in-Ok.ensures) in
    let within = block_known block known.0 in
    (within.0, (parts_of_lem (decoded block) within.1).application_part, known.1)

pub returns-in-Ok : goal.returns-in-Ok
returns-in-Ok c =
    let args = c.args in
    let block = args.state.now in
    let fine = sym c.in-Ok.ensures in
    let known = collect_known (block_sound block) args.out.now fine in
    collect_taken block args.out.now (block_known block known.0).0 (λ i. (c.slice_known-1.given i).fits) fine c.collect.result _ _ c.collect.ensures
