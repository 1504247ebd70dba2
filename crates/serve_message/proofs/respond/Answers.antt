-- Sum, length, service: in the table's order, each looked at once.
use mathlib.Core.Path.{◌≡◌, refl, sym, subst, ap, ◌∙◌}
use mathlib.Core.Bool.{true}
use Prim.Native.Nat.{ℕ, ◌+◌, ◌-◌, ◌≤◌}
use native.Mathlib.Omega.{arith}
use lib.ListN.{length, take, drop, length-take, length-drop}
use lib.Seq.{sets, take-take}
use Rattle.document.specs.Numbers.{most_data}
use Rattle.document.specs.Areas.{bytes_at}
use Rattle.document.specs.Message.{length_fits}
use Rattle.document.specs.declared.Service.{Service}
use Rattle.serve_fields.specs.Framed.{Framed}
use Rattle.serve_fields.proofs.Framing.{framed}
use Rattle.line_wire.proofs.Writing.{told_as}
use Rattle.serve_recorder.specs.Operates.{status_alone}
use Rattle.state_parts.specs.State.{gate_of}
use Rattle.state_block.specs.Places.{body_place, scope_place}
use Rattle.state_block.specs.Layout.{decoded_body, data_to, decoded_instruments, encoded_instruments}
use Rattle.state_block.proofs.Stored.{same_instruments}
use Rattle.serve_message.specs.Held.{held_of}
use Rattle.serve_message.proofs.Refusing.{wrong_sum, too_long, carried}
use Rattle.serve_message.proofs.respond.Goals as goal

pub returns-then-whole-ne0 : goal.returns-then-whole-ne0
returns-then-whole-ne0 c =
    let same_block : (c.args.state.now) ≡ sets (c.args.state.now) scope_place (encoded_instruments (decoded_instruments (c.args.state.now))) = sym (same_instruments (c.args.state.now) c.requires.long (λ i. (c.slice_known-1.given i).fits)) in
    let i = decoded_instruments (c.args.state.now) in
    wrong_sum (gate_of i c.args.memory.now) i (held_of c.args.whole (decoded_body (c.args.state.now))) c.if-whole-ne0.true
    (record { told = told_as _ _ (ap status_alone c.from.ensures) c.status_alone.ensures; memory = refl; kept = same_block })

pub returns-then-end-gt-MOST_DATA : goal.returns-then-end-gt-MOST_DATA
returns-then-end-gt-MOST_DATA c =
    let same_block : (c.args.state.now) ≡ sets (c.args.state.now) scope_place (encoded_instruments (decoded_instruments (c.args.state.now))) = sym (same_instruments (c.args.state.now) c.requires.long (λ i. (c.slice_known-1.given i).fits)) in
    let i = decoded_instruments (c.args.state.now) in
    too_long (gate_of i c.args.memory.now) i (held_of c.args.whole (decoded_body (c.args.state.now))) c.if-whole-ne0.false (omega (arith, c.from-end.ensures, c.if-end-gt-MOST_DATA.true))
    (record { told = told_as _ _ (ap status_alone c.from-then-end-gt-MOST_DATA.ensures) c.status_alone-then-end-gt-MOST_DATA.ensures; memory = refl; kept = same_block })

pub overflow_add-end : goal.overflow_add-end
overflow_add-end c =
    let few : c.from-end.result ≤ most_data = omega (arith, c.if-end-gt-MOST_DATA.false) in
    record { fits = omega (arith, few) }

pub serve-requires : goal.serve-requires
serve-requires c =
    let few : c.from-end.result ≤ most_data = omega (arith, c.if-end-gt-MOST_DATA.false) in
    let part_held : (data_to (c.args.state.now) (body_place + c.from-end.result)) ≡ (held_of c.args.whole (decoded_body (c.args.state.now))).kept = let whole : body_place + c.from-end.result - body_place ≡ c.from-end.result = omega arith in
    ap (λ (n : ℕ). bytes_at (c.args.state.now) body_place n) whole
    ∙ sym (take-take c.from-end.result most_data (drop body_place (c.args.state.now)) few)
    ∙ ap (λ (n : ℕ). take n (decoded_body (c.args.state.now))) c.from-end.ensures in
    let part_length : length (data_to (c.args.state.now) (body_place + c.from-end.result)) ≡ c.args.whole.length = ap length part_held ∙ simp (length-take, length-drop) (omega (arith, few, c.from-end.ensures, c.requires.long)) in
    let framing : Framed c.service_of.result (data_to (c.args.state.now) (body_place + c.from-end.result)) = let whole = c.args.whole in
    let formed : length_fits whole.command (length (data_to (c.args.state.now) (body_place + c.from-end.result))) ≡ true = ap (length_fits whole.command) part_length ∙ c.requires.fits in
    subst (λ (s : Service). Framed s (data_to (c.args.state.now) (body_place + c.from-end.result))) (sym c.service_of.ensures) (framed whole.command (data_to (c.args.state.now) (body_place + c.from-end.result)) (omega (arith, part_length, few, c.from-end.ensures)) formed) in
    record {
      framed = framing;
      least = omega arith;
      most = omega (arith, few);
      long = c.requires.long;
      scope_sound = c.requires.scope_sound;
      memory_whole = c.requires.memory_whole;
      room = c.requires.room;
    }

pub returns : goal.returns
returns c =
    let few : c.from-end.result ≤ most_data = omega (arith, c.if-end-gt-MOST_DATA.false) in
    let part_held : (data_to (c.args.state.now) (body_place + c.from-end.result)) ≡ (held_of c.args.whole (decoded_body (c.args.state.now))).kept = let whole : body_place + c.from-end.result - body_place ≡ c.from-end.result = omega arith in
    ap (λ (n : ℕ). bytes_at (c.args.state.now) body_place n) whole
    ∙ sym (take-take c.from-end.result most_data (drop body_place (c.args.state.now)) few)
    ∙ ap (λ (n : ℕ). take n (decoded_body (c.args.state.now))) c.from-end.ensures in
    let i = decoded_instruments (c.args.state.now) in
    carried (gate_of i c.args.memory.now) i (held_of c.args.whole (decoded_body (c.args.state.now))) c.if-whole-ne0.false (omega (arith, few, c.from-end.ensures))
    c.service_of.result (data_to (c.args.state.now) (body_place + c.from-end.result)) c.service_of.ensures part_held
    c.serve.ensures
