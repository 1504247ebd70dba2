-- The wait begins anew, the place goes on, and the watch looks at the value.
use mathlib.Core.Path.{ap, ◌∙◌}
use Rattle.recorder_runs.specs.declared.run.Run.{Run}
use Rattle.recorder_runs.specs.Bounds.{watch_sound}
use Rattle.recorder_runs.proofs.Granted.{run_bounds}
use Rattle.recorder_runs.proofs.Watches.{set_kept}
use Rattle.recorder_runs.proofs.run.Run.after_set.Goals as goal

pub next_place-placed-requires : goal.next_place-placed-requires
next_place-placed-requires c =
    let b = run_bounds c.args.plan c.args.self c.requires.1 in
    (b.place, b.full)

pub watch_on-requires : goal.watch_on-requires
watch_on-requires c =
    let b = run_bounds c.args.plan c.args.self c.requires.1 in
    let e = c.next_place-placed.ensures in (
      record {
        plan = c.requires.0;
        watch = ap (λ (r : Run). watch_sound c.args.plan.size c.args.plan.post_trigger r.running r.watch r.value) e ∙ b.watch;
        fits = c.requires.3;
      },
      ap (λ (r : Run). r.running) e ∙ c.requires.2,
    )

pub returns : goal.returns
returns c memory v =
    c.watch_on.ensures ∙ set_kept c.args.plan c.args.self c.next_place-placed.result c.args.value memory c.next_place-placed.ensures v
