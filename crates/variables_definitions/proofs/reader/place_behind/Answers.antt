-- The place moves behind a definition just where one is there.
use mathlib.Core.Path.{◌≡◌, sym, ◌∙◌}
use mathlib.Core.Bool.{true}
use Prim.Native.Nat.{◌+◌, ◌≤◌}
use native.Mathlib.Omega.{arith}
use lib.ListN.{length}
use borrow.Author.Tests.{leb-true}
use Rattle.document.specs.Variables.{definition_width}
use Rattle.variables_definitions.specs.Parts.{is_there}
use Rattle.variables_definitions.proofs.reader.place_behind.Goals as goal

pub returns-then-not-is_there : goal.returns-then-not-is_there
returns-then-not-is_there c = rw (sym c.is_there.ensures ∙ c.if-not-is_there.true)

pub overflow_add-result : goal.overflow_add-result
overflow_add-result c =
    let there : let a = c.args in is_there a.ex a.part.now a.at ≡ true = sym c.is_there.ensures ∙ c.if-not-is_there.false in
    let fits : let a = c.args in a.at + definition_width a.ex ≤ length a.part.now = leb-true _ _ there in
    record { fits = omega (arith, fits) }

pub overflow_add-result-2 : goal.overflow_add-result-2
overflow_add-result-2 c =
    let there : let a = c.args in is_there a.ex a.part.now a.at ≡ true = sym c.is_there.ensures ∙ c.if-not-is_there.false in
    let fits : let a = c.args in a.at + definition_width a.ex ≤ length a.part.now = leb-true _ _ there in
    record { fits = omega (arith, fits) }

pub returns : goal.returns
returns c =
    let there : let a = c.args in is_there a.ex a.part.now a.at ≡ true = sym c.is_there.ensures ∙ c.if-not-is_there.false in
    rw there (omega (arith, c.address_width.ensures.0))
