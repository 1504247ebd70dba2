-- The state first, then the result and whether it is waited for.
use mathlib.Core.Path.{sym, ◌∙◌}
use Rattle.std.proofs.lemmas.Result.{err_from_is_err_and}
use Rattle.application_state.specs.State.{application_of}
use Rattle.state_block.specs.Layout.{decoded_application}
use Rattle.call_checks.specs.Promises.{block_sound}
use Rattle.call_checks.proofs.Settled.{panel_outside}
use Rattle.call_checks.proofs.report_refusal.Goals as goal

pub returns-in_err-panel_refusal : goal.returns-in_err-panel_refusal
returns-in_err-panel_refusal c =
    let p = err_from_is_err_and c.from_residual.result c.from_residual.ensures.1 in
    let bad = panel_outside c.args.state.now c.in_err-panel_refusal.field-0.0 c.in_err-panel_refusal.ensures in
    rw (p.1, p.2, bad) (rw bad at c.in_err-panel_refusal.ensures)
