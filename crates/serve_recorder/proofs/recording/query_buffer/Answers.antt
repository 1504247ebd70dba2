-- The recorder says its status, or where its buffer begins and its index.
use mathlib.Core.Path.{◌≡◌, ap, subst, ◌∙◌, sym}
use mathlib.Core.List.{◌++◌}
use borrow.Author.Tests.{eq-eqb, eqb-false}
use Rattle.std.proofs.Common.{Ok, Err}
use Rattle.document.specs.Numbers.{done}
use Rattle.document.specs.Areas.{buffer_begin}
use Rattle.document.specs.Values.{little_endian}
use Rattle.document.specs.Variables.{address_width}
use Rattle.recorder_state.specs.declared.state.Recorder.{Recorder as RecorderState}
use Rattle.recorder_state.specs.State.{recorder_of}
use Rattle.recorder_state.specs.Calls.{query_status, index_of, QuerySettled}
use Rattle.line_wire.proofs.Writing.{told_as}
use Rattle.state_parts.specs.State.{gate_of}
use Rattle.state_block.specs.Layout.{decoded_recorder, decoded_instruments}
use Rattle.serve_recorder.specs.Operates.{status_alone}
use Rattle.serve_recorder.proofs.Statuses.{query_refused, query_answered, buffer_bytes}
use Rattle.serve_recorder.proofs.Changing.{never_done}
use Rattle.serve_recorder.proofs.recording.query_buffer.Goals as goal

pub returns-in-Err : goal.returns-in-Err
returns-in-Err c =
    let e = c.in-Err.status in
    let said : QuerySettled (decoded_recorder c.args.state.now) (Err e) = subst (λ (r : RecorderState). QuerySettled r (Err e)) c.recorder_in.ensures c.in-Err.ensures in
    let service = c.args.service in
    λ memory body.
    told_as _ _
    (ap status_alone (c.from.ensures ∙ said.status)
    ∙ query_refused (gate_of (decoded_instruments c.args.state.now) memory) service body (λ is. eqb-false _ _ (never_done e) (said.status ∙ is)))
    c.status_alone.ensures

pub returns-in-Ok : goal.returns-in-Ok
returns-in-Ok c =
    let index = c.in-Ok.index in
    let said : QuerySettled (decoded_recorder c.args.state.now) (Ok index) = subst (λ (r : RecorderState). QuerySettled r (Ok index)) c.recorder_in.ensures c.in-Ok.ensures in
    let service = c.args.service in
    let r = recorder_of (decoded_recorder c.args.state.now) in
    let right : query_status r ≡ done = sym said.status in
    let is : index ≡ index_of r = said.index ∙ rw (eq-eqb (query_status r) done right) in
    let n = address_width service.ex in
    λ memory body.
    told_as _ _
    ((λ i. record { status = done; body = little_endian n buffer_begin ++ little_endian 2 (is i) })
    ∙ (λ i. record { status = done; body = buffer_bytes n r right i })
    ∙ query_answered (gate_of (decoded_instruments c.args.state.now) memory) service body right)
    c.buffer_from.ensures
