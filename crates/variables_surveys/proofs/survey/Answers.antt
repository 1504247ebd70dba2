-- A whole part holds the definitions that its count names.
use mathlib.Core.Path.{◌≡◌, ap, ◌∙◌}
use Prim.Native.Nat.{ℕ, ◌*◌}
use native.Mathlib.Omega.{arith}
use lib.ListN.{length, drop}
use borrow.Author.Tests.{eqb-true}
use Rattle.document.specs.Variables.{definition_width, definitions_in, length_given}
use Rattle.variables_surveys.specs.Survey.{surveyed}
use Rattle.variables_surveys.proofs.survey.Goals as goal

pub bounds-part-0 : goal.bounds-part-0
bounds-part-0 c =
    let right : length c.args.part.now ≡ length_given c.args.ex c.args.part.now = eqb-true _ _ c.requires.0 in
    omega (arith, right)

pub survey_all-requires : goal.survey_all-requires
survey_all-requires c =
    let right : length c.args.part.now ≡ length_given c.args.ex c.args.part.now = eqb-true _ _ c.requires.0 in (
      omega (arith, c.requires.1),
      omega (arith, right, ap (λ (n : ℕ). n * definition_width c.args.ex) c.from.ensures),
    )

pub returns : goal.returns
returns c = (
  c.survey_all.ensures.0
      ∙ ap (λ (n : ℕ). surveyed c.args.limit (definitions_in c.args.ex n (drop 1 c.args.part.now))) c.from.ensures,
  c.survey_all.ensures.1,
)
