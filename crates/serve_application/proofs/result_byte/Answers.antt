-- By the phase.
use mathlib.Core.Path.{sym, ◌∙◌}
use Rattle.application_state.specs.State.{application_of}
use Rattle.state_block.specs.Layout.{decoded_application}
use Rattle.serve_application.proofs.Sending.{no_result, no_command_lem, result_in}
use Rattle.serve_application.proofs.result_byte.Goals as goal

pub returns-then-is_pending : goal.returns-then-is_pending
returns-then-is_pending c =
    no_result (application_of (decoded_application c.args.state.now))
    (sym c.is_pending.ensures ∙ c.if-is_pending.true)

pub returns-then-state-eq-NONE : goal.returns-then-state-eq-NONE
unfolding decoded_application
returns-then-state-eq-NONE c = no_command_lem (decoded_application c.args.state.now) c.if-state-eq-NONE.true

pub returns : goal.returns
unfolding decoded_application
returns c =
    result_in (decoded_application c.args.state.now)
    (sym c.is_pending.ensures ∙ c.if-is_pending.false) c.if-state-eq-NONE.false
