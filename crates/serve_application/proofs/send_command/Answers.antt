-- Refused, the block stays; else the command is stored.
use mathlib.Core.Path.{◌≡◌, refl, sym, ap, ◌∙◌}
use Prim.Native.Nat.{◌-◌}
use native.Mathlib.Omega.{arith}
use lib.ListN.{length, length-take, length-drop}
use lib.Seq.{sets}
use Rattle.document.specs.Numbers.{done, busy, layout_wrong}
use Rattle.document.specs.declared.Operation.TheVariants.{SendCommand}
use Rattle.application_state.specs.State.{Command}
use Rattle.state_parts.specs.State.{gate_of, with_application}
use Rattle.state_block.specs.Places.{body_place, scope_place}
use Rattle.state_block.specs.Layout.{data_to, decoded_application, decoded_instruments, encoded_instruments}
use Rattle.serve_recorder.proofs.Changing.{settles, same_block}
use Rattle.serve_application.proofs.Sending.{send_busy, send_empty, send_done, kept_busy, kept_empty, sent_next}
use Rattle.serve_application.proofs.send_command.Goals as goal

pub returns-then-is_pending : goal.returns-then-is_pending
returns-then-is_pending c =
    let block = c.args.state.now in
    let body = data_to block c.args.to in
    let pending = sym c.is_pending.ensures ∙ c.if-is_pending.true in
    let kept =
    same_block block c.requires.0 (λ i. (c.slice_known-1.given i).fits) _
    (ap (λ (d : Command). with_application (decoded_instruments block) d) (kept_busy body (decoded_application block) pending)) in
    λ memory service.
    settles SendCommand refl block memory service body busy _
    (send_busy (gate_of (decoded_instruments block) memory) service body pending) kept

pub returns-then-to-eq-BODY : goal.returns-then-to-eq-BODY
returns-then-to-eq-BODY c =
    let width : length (data_to c.args.state.now c.args.to) ≡ c.args.to - body_place = simp (length-take, length-drop) (omega (arith, c.requires.0, c.requires.2)) in
    let block = c.args.state.now in
    let body = data_to block c.args.to in
    let free = sym c.is_pending.ensures ∙ c.if-is_pending.false in
    let empty : length (data_to block c.args.to) ≡ 0 = omega (arith, width, c.if-to-eq-BODY.true) in
    let kept =
    same_block block c.requires.0 (λ i. (c.slice_known-1.given i).fits) _
    (ap (λ (d : Command). with_application (decoded_instruments block) d) (kept_empty body (decoded_application block) free empty)) in
    λ memory service.
    settles SendCommand refl block memory service body layout_wrong _
    (send_empty (gate_of (decoded_instruments block) memory) service body free empty) kept

pub returns : goal.returns
returns c =
    let width : length (data_to c.args.state.now c.args.to) ≡ c.args.to - body_place = simp (length-take, length-drop) (omega (arith, c.requires.0, c.requires.2)) in
    let block = c.args.state.now in
    let body = data_to block c.args.to in
    let free = sym c.is_pending.ensures ∙ c.if-is_pending.false in
    let filled : length (data_to block c.args.to) ≡ 0 → ⊥ = λ none. c.if-to-eq-BODY.false (omega (arith, width, none, c.requires.1)) in
    let stored =
    c.send.ensures
    ∙ ap (λ (d : Command). sets block scope_place (encoded_instruments (with_application (decoded_instruments block) d)))
    (sent_next body (decoded_application block) free filled) in
    λ memory service.
    settles SendCommand refl block memory service body done _
    (send_done (gate_of (decoded_instruments block) memory) service body free filled) stored
