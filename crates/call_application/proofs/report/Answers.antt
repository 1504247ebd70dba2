-- Refused, nothing changes; else the result is stored.
use mathlib.Core.Path.{sym, ◌∙◌}
use Rattle.application_state.specs.State.{application_of}
use Rattle.state_block.specs.Layout.{decoded_application}
use Rattle.call_checks.proofs.ApplicationNumbers.{report_known}
use Rattle.codes_table.proofs.Refusals.{refusal_some}
use Rattle.call_checks.proofs.Settled.{block_known}
use Rattle.call_checks.specs.Promises.{block_sound}
use Rattle.call_application.proofs.Calls.{report_refused, report_taken}
use Rattle.call_application.proofs.report.Goals as goal

pub returns-in-Err : goal.returns-in-Err
returns-in-Err c =
    let args = c.args in
    report_refused args.state.now args.res c.from.result (c.from.ensures ∙ c.in-Err.ensures) (λ e. refusal_some c.in-Err.refusal (sym c.from.ensures ∙ e))

pub report-requires : goal.report-requires
report-requires c =
    let args = c.args in
    let block = args.state.now in
    let known = report_known (block_sound block) (application_of (decoded_application block)) args.res (sym c.in-Ok.ensures) in
    (block_known block known.0).0

pub returns-in-Ok : goal.returns-in-Ok
returns-in-Ok c =
    let args = c.args in
    let block = args.state.now in
    let fine = sym c.in-Ok.ensures in
    let known = report_known (block_sound block) (application_of (decoded_application block)) args.res fine in
    report_taken block args.res (block_known block known.0).0 (λ i. (c.slice_known-1.given i).fits) fine _ c.report.ensures
