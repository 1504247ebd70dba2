-- Behind the trigger a set is counted; before it the set is looked at, and the trigger comes or is still awaited.
use mathlib.Core.Path.{◌≡◌, sym, ap, ◌∙◌}
use mathlib.Core.Bool.{true, false}
use Prim.Native.Nat.{ℕ, ◌≤◌}
use native.Mathlib.Omega.{arith}
use Rattle.document.specs.Run.Watch.{triggered}
use Rattle.recorder_plans.specs.State.{plan_of}
use Rattle.recorder_runs.specs.State.{watching}
use Rattle.recorder_runs.proofs.Granted.{awaits, left_some}
use Rattle.recorder_runs.proofs.Watches.{still_running, looked_set, counted_set}
use Rattle.recorder_runs.proofs.run.Run.watch_on.Goals as goal

pub overflow_sub-self : goal.overflow_sub-self
overflow_sub-self c =
    let p = c.args.plan in
    let r = c.args.self in
    left_some p.size p.post_trigger r.running r.watch r.value c.requires.0.watch
    (λ e. omega (arith, c.if-self-eq-TRIGGERED.true)) (λ e. omega (arith, c.if-self-eq-TRIGGERED.true)) c.requires.1

pub returns-then-self-eq-TRIGGERED : goal.returns-then-self-eq-TRIGGERED
returns-then-self-eq-TRIGGERED c =
    let r = c.args.self in
    c.counting.ensures
    ∙ counted_set (plan_of c.args.plan) r c.args.value c.if-self-eq-TRIGGERED.true

pub does_come-requires : goal.does_come-requires
does_come-requires c = (c.requires.0, c.if-self-eq-TRIGGERED.false)

pub returns-then-does_come : goal.returns-then-does_come
returns-then-does_come c =
    let awaited : (c.args.self.watch ≡ 2 → ⊥) → c.args.self.watch ≤ 1 = λ n. let p = c.args.plan in
    let r = c.args.self in
    awaits p.size p.post_trigger r.running r.watch r.value c.requires.0.watch n in
    let r = c.args.self in
    c.counting-then-does_come.ensures
    ∙ ap (λ (k : ℕ). watching r (triggered k)) c.from.ensures
    ∙ looked_set (plan_of c.args.plan) r c.args.value true
    (awaited c.if-self-eq-TRIGGERED.false)
    (sym c.if-does_come.true ∙ c.does_come.ensures)

pub returns-else-does_come : goal.returns-else-does_come
returns-else-does_come c =
    let awaited : (c.args.self.watch ≡ 2 → ⊥) → c.args.self.watch ≤ 1 = λ n. let p = c.args.plan in
    let r = c.args.self in
    awaits p.size p.post_trigger r.running r.watch r.value c.requires.0.watch n in
    let r = c.args.self in
    c.primed.ensures
    ∙ still_running r 1 c.args.value c.requires.1
    ∙ looked_set (plan_of c.args.plan) r c.args.value false
    (awaited c.if-self-eq-TRIGGERED.false)
    (sym c.if-does_come.false ∙ c.does_come.ensures)
