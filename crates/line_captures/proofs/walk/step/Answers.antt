-- By what stands at the place.
use mathlib.Core.Path.{sym, ◌∙◌}
use Rattle.line_captures.proofs.Passing.{at_start, start_stepped, literal_stepped, end_stepped}
use Rattle.line_captures.proofs.walk.step.Goals as goal

pub opened-requires : goal.opened-requires
opened-requires c =
    let a = c.args in
    (at_start a.bytes.now a.at (sym c.met_at-met.ensures ∙ c.in-Start.is)).inside

pub returns-in-Start : goal.returns-in-Start
returns-in-Start c =
    let a = c.args in
    start_stepped a.bytes.now a.at c.opened.result (sym c.met_at-met.ensures ∙ c.in-Start.is) c.opened.ensures

pub returns-in-Literal : goal.returns-in-Literal
returns-in-Literal c =
    let a = c.args in
    let t = c.in-Literal in
    literal_stepped a.bytes.now a.at t.field-0 t.behind (sym c.met_at-met.ensures ∙ t.is)

pub returns-in-End : goal.returns-in-End
returns-in-End c =
    end_stepped c.args.bytes.now c.args.at c.requires (sym c.met_at-met.ensures ∙ c.in-End.is)
