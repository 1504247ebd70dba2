-- The counts of a run never leave what the plan's fields hold, however long it runs.
use mathlib.Core.Path.{refl}
use mathlib.Core.Bool.{Bool, true, false}
use mathlib.Core.List.{List, [], ◌∷◌}
use Prim.Native.Nat.{ℕ, ◌+◌, ◌<◌, ◌≤◌}
use native.Mathlib.Omega.{arith}
use lib.Dec.{eqb}
use borrow.Author.Tests.{eqb-false}
use Rattle.document.specs.Plan.{Plan}
use Rattle.document.specs.Trigger.{trigger_value, fires, is_beyond}
use Rattle.document.specs.Run.{Watch, Run, started, stopped, place_after, looked_at, watched, ran_tick}
use Rattle.document.specs.Run.Watch.{unprimed, previous, triggered}
use Rattle.recorder_history.specs.History.{PlanFits, CountsFit, sets_left, Event, Recording, begun, stepped, after}
use Rattle.recorder_history.specs.History.Event.{tick, others, stop}
use Rattle.document.proofs.Cases.{split, neither}
use Rattle.recorder_history.proofs.Ticks.{by_case, stopped_run, waits_run, takes_run}

place_fits : (n i : ℕ) → i < n → place_after n i < n
place_fits n i h =
    split (eqb (i + 1) n)
    (λ t. rw t (omega arith))
    (λ f. rw f (omega (arith, eqb-false (i + 1) n f)))

looked_fits : (p : Plan) (come : Bool) (v : ℕ) → sets_left (looked_at p come v) ≤ p.post_trigger
looked_fits p true v = omega arith
looked_fits p false v = omega arith

left_fits : (p : Plan) (w : Watch) (v : ℕ) → sets_left w ≤ p.post_trigger → sets_left (watched p w v) ≤ p.post_trigger
left_fits p unprimed v h = looked_fits p (is_beyond p.trigger v) v
left_fits p (previous before) v h = looked_fits p (fires p.trigger before v) v
left_fits p (triggered left) v h = omega arith

pub started_fits : (p : Plan) → PlanFits p → CountsFit p started
started_fits p f = record { place = f.samples; wait = omega arith; left = omega arith; more = λ e. refl }

pub stopped_fits : (p : Plan) (r : Run) → CountsFit p r → CountsFit p (stopped r)
stopped_fits p r c = record { place = c.place; wait = c.wait; left = c.left; more = λ e. neither e }

pub tick_fits : (p : Plan) (r : Run) (m : List ℕ) → CountsFit p r → CountsFit p (ran_tick p r m)
tick_fits p r m c =
    by_case r
    (λ e. rw (stopped_run p r m e) c)
    (λ e h. rw (waits_run p r m e h)
    (record { place = c.place; wait = omega (arith, c.wait); left = c.left; more = c.more }))
    (λ e h. rw (takes_run p r m e h)
    (record {
      place = place_fits p.samples r.place c.place;
      wait = omega arith;
      left = left_fits p r.watch (trigger_value p.trigger m) c.left;
      more = λ g. g;
    }))

step_fits : (p : Plan) (g : Recording) (e : Event) → CountsFit p g.run → CountsFit p (stepped p g e).run
step_fits p g tick c = tick_fits p g.run g.memory c
step_fits p g (others m) c = c
step_fits p g stop c = stopped_fits p g.run c

events_fit : (p : Plan) (es : List Event) (g : Recording) → CountsFit p g.run → CountsFit p (after p g es).run
events_fit p [] g c = c
events_fit p (e ∷ es) g c = events_fit p es (stepped p g e) (step_fits p g e c)

-- whatever happens since a start: a place below 'samples', a wait of at most the divider, at most post-trigger sets left
pub counts_never_wrap : (p : Plan) (m : List ℕ) (es : List Event) → PlanFits p → CountsFit p (after p (begun m) es).run
counts_never_wrap p m es f = events_fit p es (begun m) (started_fits p f)
