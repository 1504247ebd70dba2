-- A stopped recorder: "does nothing at it", nor at whatever else happens until the next start, and so all that it kept stays.
use mathlib.Core.Path.{◌≡◌, refl, sym, ap, ◌∙◌}
use mathlib.Core.Bool.{false}
use mathlib.Core.List.{List, [], ◌∷◌}
use lib.ListN.{drop}
use Rattle.document.specs.Areas.{buffer_begin}
use Rattle.document.specs.Plan.{Plan}
use Rattle.document.specs.Run.{Run, stopped}
use Rattle.recorder_history.specs.History.{Event, Recording, stepped, after, LeavesBuffer, AllLeaveBuffer}
use Rattle.recorder_history.specs.History.Event.{tick, others, stop}
use Rattle.recorder_history.specs.Trace.{Stays}
use Rattle.recorder_history.proofs.Ticks.{stopped_run, stopped_memory}

module _ (p : Plan) where
  -- a stop of it changes nothing
  stopped_same : (r : Run) → r.running ≡ false → stopped r ≡ r
  stopped_same r e = λ i. record { running = sym e i; wait = r.wait; place = r.place; full = r.full; watch = r.watch }

  still_run : (g : Recording) (e : Event) → g.run.running ≡ false → (stepped p g e).run ≡ g.run
  still_run g tick s = stopped_run p g.run g.memory s
  still_run g (others m) s = refl
  still_run g stop s = stopped_same g.run s

  -- whoever writes the buffer
  pub stopped_run_kept : (es : List Event) (g : Recording) → g.run.running ≡ false → (after p g es).run ≡ g.run
  stopped_run_kept [] g s = refl
  stopped_run_kept (e ∷ es) g s =
      let still = still_run g e s in
      stopped_run_kept es (stepped p g e) (ap (λ (r : Run). r.running) still ∙ s) ∙ still

  still_buffer : (g : Recording) (e : Event) → g.run.running ≡ false → LeavesBuffer g e → drop buffer_begin (stepped p g e).memory ≡ drop buffer_begin g.memory
  still_buffer g tick s l = ap (drop buffer_begin) (stopped_memory p g.run g.memory s)
  still_buffer g (others m) s l = l.1
  still_buffer g stop s l = refl

  stopped_buffer_kept : (es : List Event) (g : Recording) → g.run.running ≡ false → AllLeaveBuffer p g es
      → drop buffer_begin (after p g es).memory ≡ drop buffer_begin g.memory
  stopped_buffer_kept [] g s q = refl
  stopped_buffer_kept (e ∷ es) g s q =
      stopped_buffer_kept es (stepped p g e) (ap (λ (r : Run). r.running) (still_run g e s) ∙ s) q.1 ∙ still_buffer g e s q.0

  -- so long as nobody else writes the buffer, all that it kept stays
  pub stopped_kept : (es : List Event) (g : Recording) → g.run.running ≡ false → AllLeaveBuffer p g es → Stays g (after p g es)
  stopped_kept es g s q = record { run = stopped_run_kept es g s; buffer = stopped_buffer_kept es g s q }
