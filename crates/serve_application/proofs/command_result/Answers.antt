-- One byte, alone.
use mathlib.Core.Path.{ap, ◌∙◌}
use mathlib.Core.List.{[], ◌∷◌}
use Prim.Native.Nat.{ℕ}
use Rattle.document.specs.Numbers.{done}
use Rattle.line_wire.proofs.Writing.{told_as}
use Rattle.state_parts.specs.State.{gate_of}
use Rattle.state_block.specs.Layout.{decoded_instruments}
use Rattle.serve_application.proofs.Sending.{result_told}
use Rattle.serve_application.proofs.command_result.Goals as goal

pub returns : goal.returns
returns c =
    let block = c.args.state.now in
    λ memory s body.
    told_as _ _
    (ap (λ (b : ℕ). record { status = done; body = b ∷ [] }) c.result_byte.ensures
    ∙ result_told (gate_of (decoded_instruments block) memory) s body)
    c.done_with.ensures
