-- The status alone, or front, values and sum byte.
use mathlib.Core.Path.{◌≡◌, sym, ◌∙◌}
use mathlib.Core.List.{[], ◌∷◌}
use Prim.Native.Nat.{◌≤◌}
use native.Mathlib.Omega.{arith}
use lib.ListN.{length}
use Rattle.document.specs.Areas.{memory_end}
use Rattle.document.specs.Numbers.{done}
use Rattle.document.specs.Sum.{sum_byte_of}
use Rattle.document.specs.Variables.{values_of}
use Rattle.line_wire.specs.Told.{Telling}
use Rattle.line_wire.proofs.Writing.{put_append, telling_room, told_in_parts, told_as}
use Rattle.variables_list.specs.State.{variables_of}
use Rattle.variables_list.proofs.Values.{values_length}
use Rattle.scope_state.specs.Read.{read_status}
use Rattle.scope_state.proofs.Given.{no_bytes, all_bytes}
use Rattle.state_block.specs.Layout.{decoded_scope, decoded_instruments}
use Rattle.codes_table.proofs.Outcomes.{never_done}
use Rattle.serve_scope.proofs.Statuses.{scope_read_lem, some, short}
use Rattle.serve_scope.proofs.Walked.{all_may_lem}
use Rattle.serve_scope.proofs.reading.read_scope.Goals as goal

pub returns-in-Err : goal.returns-in-Err
returns-in-Err c =
    let block = c.args.state.now in
    let memory = c.args.memory.now in
    let wrong : read_status (decoded_scope block) ≡ done → ⊥ = λ e. never_done c.in-Err.status (c.in-Err.ensures ∙ e) in
    λ s body.
    told_as _ _
    ((λ i. record { status = (c.from.ensures ∙ c.in-Err.ensures) i; body = sym (no_bytes (decoded_scope block) memory wrong) i })
    ∙ scope_read_lem (decoded_instruments block) memory s body)
    c.status_alone.ensures

pub put_values-behind-requires : goal.put_values-behind-requires
put_values-behind-requires c =
    let given : read_status (decoded_scope (c.args.state.now)) ≡ done = sym c.in-Ok.ensures in
    let fits : length (values_of c.args.memory.now (variables_of (decoded_scope (c.args.state.now)).variables)) ≤ 64 = omega (
      arith,
      values_length c.args.memory.now memory_end (variables_of (decoded_scope (c.args.state.now)).variables) (all_may_lem (c.args.state.now) c.requires.1) (omega (arith, c.requires.2)),
      short (decoded_scope (c.args.state.now)) given,
    ) in
    (c.requires.0, c.requires.1, c.requires.2, telling_room done [] c.args.out.now c.begin-front.result _ c.begin-front.ensures c.requires.3 (values_of c.args.memory.now (variables_of (decoded_scope (c.args.state.now)).variables)) (omega (arith, fits)))

pub put_sum-requires : goal.put_sum-requires
put_sum-requires c =
    let given : read_status (decoded_scope (c.args.state.now)) ≡ done = sym c.in-Ok.ensures in
    let fits : length (values_of c.args.memory.now (variables_of (decoded_scope (c.args.state.now)).variables)) ≤ 64 = omega (
      arith,
      values_length c.args.memory.now memory_end (variables_of (decoded_scope (c.args.state.now)).variables) (all_may_lem (c.args.state.now) c.requires.1) (omega (arith, c.requires.2)),
      short (decoded_scope (c.args.state.now)) given,
    ) in
    let telling : Telling done (values_of c.args.memory.now (variables_of (decoded_scope (c.args.state.now)).variables)) c.args.out.now c.put_values-behind.result c.put_values-behind.new.out = put_append _ _ _ [] (values_of c.args.memory.now (variables_of (decoded_scope (c.args.state.now)).variables)) _ _ _ c.begin-front.ensures c.put_values-behind.ensures in
    telling_room done (values_of c.args.memory.now (variables_of (decoded_scope (c.args.state.now)).variables)) c.args.out.now c.put_values-behind.result _ telling c.requires.3 (sum_byte_of (c.put_values-behind.result.sum ∷ []) ∷ []) (omega (arith, fits))

pub returns-in-Ok : goal.returns-in-Ok
returns-in-Ok c =
    let given : read_status (decoded_scope (c.args.state.now)) ≡ done = sym c.in-Ok.ensures in
    let telling : Telling done (values_of c.args.memory.now (variables_of (decoded_scope (c.args.state.now)).variables)) c.args.out.now c.put_values-behind.result c.put_values-behind.new.out = put_append _ _ _ [] (values_of c.args.memory.now (variables_of (decoded_scope (c.args.state.now)).variables)) _ _ _ c.begin-front.ensures c.put_values-behind.ensures in
    let memory = c.args.memory.now in
    λ s body.
    told_as _ _
    ((λ i. record { status = sym given i; body = sym (all_bytes (decoded_scope (c.args.state.now)) memory (some (decoded_scope (c.args.state.now)) given) given) i })
    ∙ scope_read_lem (decoded_instruments (c.args.state.now)) memory s body)
    (told_in_parts done (values_of c.args.memory.now (variables_of (decoded_scope (c.args.state.now)).variables)) c.args.out.now c.put_values-behind.result _ telling c.put_sum.result _ c.put_sum.ensures)
