-- An index of two bytes, or nothing is told.
use mathlib.Core.Path.{◌≡◌, sym, ap, ◌∙◌}
use Prim.Native.Nat.{ℕ, ◌-◌}
use native.Mathlib.Omega.{arith}
use lib.ListN.{length}
use Rattle.document.specs.Numbers.{done}
use Rattle.document.specs.Tables.{table_answer}
use Rattle.document.specs.Values.{number}
use Rattle.document.specs.Areas.{bytes_at}
use Rattle.bytes_fields.proofs.Ranges.{bytes_length}
use Rattle.line_wire.proofs.Writing.{told_as}
use Rattle.tables_state.specs.State.{tables_of}
use Rattle.state_parts.specs.State.{gate_of}
use Rattle.state_block.specs.Places.{body_place}
use Rattle.state_block.specs.Layout.{data_to, decoded_tables, decoded_instruments}
use Rattle.serve_tables.proofs.Listed.{table_layout, table_told}
use Rattle.serve_tables.proofs.tell_table.Goals as goal

pub returns-then-to : goal.returns-then-to
returns-then-to c =
    let data-length : length (data_to c.args.state.now c.args.to) ≡ c.args.to - body_place = bytes_length c.args.state.now body_place (c.args.to - body_place) (omega (arith, c.requires.0, c.requires.1, c.requires.2)) in
    let block = c.args.state.now in
    λ memory service.
    told_as _ _
    (table_layout (gate_of (decoded_instruments block) memory) service (data_to block c.args.to) (λ e. c.if-to.true (omega (arith, e, data-length, c.requires.1))))
    c.status_alone.ensures

pub returns : goal.returns
returns c =
    let data-length : length (data_to c.args.state.now c.args.to) ≡ c.args.to - body_place = bytes_length c.args.state.now body_place (c.args.to - body_place) (omega (arith, c.requires.0, c.requires.1, c.requires.2)) in
    let block = c.args.state.now in
    let two : c.args.to - body_place ≡ 2 = omega (arith, c.if-to.false) in
    let index : c.from.result ≡ number (data_to block c.args.to) =
    c.from.ensures ∙ c.at.ensures ∙ ap (λ (n : ℕ). number (bytes_at block body_place n)) (sym two) in
    λ memory service.
    told_as _ _
    (ap (λ (n : ℕ). record { status = done; body = table_answer (tables_of (decoded_tables block)) n }) index
    ∙ table_told (gate_of (decoded_instruments block) memory) service (data_to block c.args.to) (data-length ∙ two))
    c.tell_listed.ensures
