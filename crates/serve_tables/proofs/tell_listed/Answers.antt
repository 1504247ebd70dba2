-- Zeros beyond the last and beyond the list's room; else three words of the list.
use mathlib.Core.Path.{refl, sym, ap, ◌∙◌}
use mathlib.Core.List.{List}
use Prim.Native.Nat.{ℕ, ◌<◌}
use native.Mathlib.Omega.{arith}
use Rattle.document.specs.Numbers.{done}
use Rattle.document.specs.Tables.{most_tables}
use Rattle.document.specs.Answer.{Answer}
use Rattle.line_wire.proofs.Writing.{told_as}
use Rattle.state_block.specs.Layout.{decoded_tables}
use Rattle.serve_tables.proofs.Listed.{listed_below, not_listed, at_index}
use Rattle.serve_tables.proofs.tell_listed.Goals as goal

abbrev said : List ℕ → Answer
said bytes = record { status = done; body = bytes }

pub returns-then-not-is_listed : goal.returns-then-not-is_listed
returns-then-not-is_listed c =
    told_as _ _
    (ap said (not_listed c.args.state.now c.args.index c.requires.0 (sym c.is_listed.ensures ∙ c.if-not-is_listed.true)))
    c.done_words.ensures

pub overflow_mul-at : goal.overflow_mul-at
overflow_mul-at c =
    let below : (c.args.index < (decoded_tables c.args.state.now).count) × (c.args.index < most_tables) = listed_below c.args.state.now c.args.index (sym c.is_listed.ensures ∙ c.if-not-is_listed.false) in
    record { fits = omega (arith, below.1) }

pub overflow_add-at : goal.overflow_add-at
overflow_add-at c =
    let below : (c.args.index < (decoded_tables c.args.state.now).count) × (c.args.index < most_tables) = listed_below c.args.state.now c.args.index (sym c.is_listed.ensures ∙ c.if-not-is_listed.false) in
    record { fits = omega (arith, below.1) }

pub overflow_add-at-2 : goal.overflow_add-at-2
overflow_add-at-2 c =
    let below : (c.args.index < (decoded_tables c.args.state.now).count) × (c.args.index < most_tables) = listed_below c.args.state.now c.args.index (sym c.is_listed.ensures ∙ c.if-not-is_listed.false) in
    record { fits = omega (arith, below.1) }

pub at-requires : goal.at-requires
at-requires c =
    let below : (c.args.index < (decoded_tables c.args.state.now).count) × (c.args.index < most_tables) = listed_below c.args.state.now c.args.index (sym c.is_listed.ensures ∙ c.if-not-is_listed.false) in
    omega (arith, below.1, c.requires.0)

pub at-requires-2 : goal.at-requires-2
at-requires-2 c =
    let below : (c.args.index < (decoded_tables c.args.state.now).count) × (c.args.index < most_tables) = listed_below c.args.state.now c.args.index (sym c.is_listed.ensures ∙ c.if-not-is_listed.false) in
    omega (arith, below.1, c.requires.0)

pub returns : goal.returns
returns c =
    let below : (c.args.index < (decoded_tables c.args.state.now).count) × (c.args.index < most_tables) = listed_below c.args.state.now c.args.index (sym c.is_listed.ensures ∙ c.if-not-is_listed.false) in
    told_as _ _
    (ap said
    (at_index c.args.state.now c.args.index c.requires.0 (λ i. (c.shared_slice_known-1.given i).fits) below.1 below.0 _ _ _ refl
    c.at.ensures c.at-2.ensures))
    c.done_words-2.ensures
