-- By the event that the receiver makes of the byte.
use mathlib.Core.Path.{◌≡◌, sym, ap, ◌∙◌}
use Prim.Native.Nat.{ℕ, ◌+◌, ◌<◌}
use native.Mathlib.Omega.{arith}
use lib.ListN.{get_or, set}
use Rattle.line_receiver.specs.declared.Receiver.{Receiver}
use Rattle.line_receiver.specs.declared.Event.TheVariants.{Nothing, Keep, Whole}
use Rattle.line_receiver.specs.Step.{stepped}
use Rattle.state_block.specs.Places.{body_place}
use Rattle.state_block.specs.Layout.{decoded_receiver}
use Rattle.call_byte.specs.Heard.{heard_of}
use Rattle.call_byte.proofs.Turns.{event_of, nothing_heard, whole_heard, place_in_body, keep_heard}
use Rattle.call_byte.proofs.hearing.hear.Goals as goal

pub bounds-state-place : goal.bounds-state-place
bounds-state-place c =
    let is_step : c.step-taken.result ≡ stepped (decoded_receiver (c.args.state.now)) c.args.byte = c.step-taken.ensures ∙ ap (λ (r : Receiver). stepped r c.args.byte) c.receiver_in-receiver.ensures in
    let small : (i : ℕ) → get_or (c.args.state.now) i 0 < 256 = λ i. (c.slice_known-1.given i).fits in
    let inside = place_in_body (c.args.state.now) c.args.byte c.requires small c.step-taken.result is_step c.in-Keep.at c.in-Keep.byte c.in-Keep.is in
    omega (arith, inside, c.put_receiver.auto.block, c.from-place.ensures, c.requires)

pub returns-in-Nothing : goal.returns-in-Nothing
returns-in-Nothing c =
    let is_step : c.step-taken.result ≡ stepped (decoded_receiver (c.args.state.now)) c.args.byte = c.step-taken.ensures ∙ ap (λ (r : Receiver). stepped r c.args.byte) c.receiver_in-receiver.ensures in
    let small : (i : ℕ) → get_or (c.args.state.now) i 0 < 256 = λ i. (c.slice_known-1.given i).fits in
    let h = c.in-Nothing.is in
    record {
      brought = ap heard_of (sym (event_of (c.args.state.now) c.args.byte c.requires small c.step-taken.result is_step Nothing h));
      state = nothing_heard (c.args.state.now) c.args.byte c.requires small c.step-taken.result is_step _ h c.put_receiver.ensures;
    }

pub returns-in-Keep : goal.returns-in-Keep
returns-in-Keep c =
    let is_step : c.step-taken.result ≡ stepped (decoded_receiver (c.args.state.now)) c.args.byte = c.step-taken.ensures ∙ ap (λ (r : Receiver). stepped r c.args.byte) c.receiver_in-receiver.ensures in
    let small : (i : ℕ) → get_or (c.args.state.now) i 0 < 256 = λ i. (c.slice_known-1.given i).fits in
    let at = c.in-Keep.at in
    let byte = c.in-Keep.byte in
    let h = c.in-Keep.is in
    record {
      brought = ap heard_of (sym (event_of (c.args.state.now) c.args.byte c.requires small c.step-taken.result is_step (Keep at byte) h));
      state =
          keep_heard (c.args.state.now) c.args.byte c.requires small c.step-taken.result is_step _ at byte h
          ((λ i. set (c.put_receiver.ensures i) (body_place + c.from-place.ensures i) byte));
    }

pub returns-in-Whole : goal.returns-in-Whole
returns-in-Whole c =
    let is_step : c.step-taken.result ≡ stepped (decoded_receiver (c.args.state.now)) c.args.byte = c.step-taken.ensures ∙ ap (λ (r : Receiver). stepped r c.args.byte) c.receiver_in-receiver.ensures in
    let small : (i : ℕ) → get_or (c.args.state.now) i 0 < 256 = λ i. (c.slice_known-1.given i).fits in
    let command = c.in-Whole.command in
    let n = c.in-Whole.length in
    let sum = c.in-Whole.sum in
    let h = c.in-Whole.is in
    record {
      brought = ap heard_of (sym (event_of (c.args.state.now) c.args.byte c.requires small c.step-taken.result is_step (Whole command n sum) h));
      state = whole_heard (c.args.state.now) c.args.byte c.requires small c.step-taken.result is_step _ command n sum h c.put_receiver.ensures;
    }
