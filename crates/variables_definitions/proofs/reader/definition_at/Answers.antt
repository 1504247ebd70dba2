-- Where a definition is there it is handed out.
use mathlib.Core.Path.{◌≡◌, sym, ◌∙◌}
use mathlib.Core.Bool.{true}
use Prim.Native.Nat.{◌+◌, ◌≤◌}
use native.Mathlib.Omega.{arith}
use lib.ListN.{length}
use borrow.Author.Tests.{leb-true}
use borrow.Author.Rules.{rules}
use Rattle.document.specs.Variables.{definition_width}
use Rattle.variables_definitions.specs.Parts.{is_there}
use Rattle.variables_definitions.proofs.Read.{found_at}
use Rattle.variables_definitions.proofs.reader.definition_at.Goals as goal

pub returns-then-not-is_there : goal.returns-then-not-is_there
returns-then-not-is_there c = rw (sym c.is_there.ensures ∙ c.if-not-is_there.true)

pub overflow_add-at : goal.overflow_add-at
overflow_add-at c =
    let there : let a = c.args in is_there a.ex a.part.now a.at ≡ true = sym c.is_there.ensures ∙ c.if-not-is_there.false in
    let fits : let a = c.args in a.at + definition_width a.ex ≤ length a.part.now = leb-true _ _ there in
    record { fits = omega (arith, fits) }

pub number_at-requires : goal.number_at-requires
number_at-requires c =
    let there : let a = c.args in is_there a.ex a.part.now a.at ≡ true = sym c.is_there.ensures ∙ c.if-not-is_there.false in
    let fits : let a = c.args in a.at + definition_width a.ex ≤ length a.part.now = leb-true _ _ there in
    (search rules, omega (arith, fits, c.address_width.ensures.0))

pub bounds-part-at : goal.bounds-part-at
bounds-part-at c =
    let there : let a = c.args in is_there a.ex a.part.now a.at ≡ true = sym c.is_there.ensures ∙ c.if-not-is_there.false in
    let fits : let a = c.args in a.at + definition_width a.ex ≤ length a.part.now = leb-true _ _ there in
    omega (arith, fits)

pub returns : goal.returns
returns c =
    let there : let a = c.args in is_there a.ex a.part.now a.at ≡ true = sym c.is_there.ensures ∙ c.if-not-is_there.false in
    let w = c.address_width in
    found_at c.args.part.now c.args.ex c.args.at w.result c.number_at.result w.ensures.0 there c.number_at.ensures.value
