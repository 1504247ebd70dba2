-- The recorder of a board along a run: an accepted start, a tick, and the ticks behind a trigger.
use mathlib.Core.Path.{◌≡◌, sym, ap, ◌∙◌, subst}
use mathlib.Core.Bool.{true, false}
use mathlib.Core.List.{List, ◌∷◌}
use Prim.Native.Nat.{ℕ, suc, ◌+◌, ◌*◌}
use lib.Dec.{ltb}
use lib.ListN.{length, take, drop}
use Rattle.document.specs.Areas.{memory_end}
use Rattle.document.specs.Message.{Message, finished_by}
use Rattle.document.specs.Variables.{set_size}
use Rattle.document.specs.Plan.{Plan}
use Rattle.document.specs.Run.{Run as DocumentRun, started, place_begins, memory_after_tick}
use Rattle.document.specs.Recorder.{Recorder, recorder_prepared, ticked_memory}
use Rattle.document.specs.Recorder.Recorder.{planned}
use Rattle.document.specs.Gate.{Gate}
use Rattle.document.specs.Commands.{answered}
use Rattle.document.specs.Panel.{panel_prepares, panel_starts}
use Rattle.document.specs.Asides.{beside}
use Rattle.document.specs.Asides.Aside.{tick, prepares, starts}
use Rattle.document.specs.Happenings.{Happening, Since, after_messages, after, after_all}
use Rattle.document.specs.Happenings.Happening.{byte, aside}
use Rattle.recorder_history.specs.History as history
use Rattle.recorder_history.specs.History.{PlanFits, Recording, begun, takes_next, beyond_in, NoneBeyond, TriggersNext, Unstopped}
use Rattle.recorder_history.proofs.Ticks.{tick_before, tick_behind}
use Rattle.recorder_history.proofs.Stop.{stops}
use Rattle.recorder_history.proofs.Beyond.{trigger_at_first, first_triggers}
use Rattle.document_outcomes.specs.Starts.{is_start}
use Rattle.document_outcomes.proofs.Recording.{start_begins}
use Rattle.laws_happenings.specs.Bytes.{with_byte}
use Rattle.laws_happenings.specs.Asides.{prepares_anew, starts_anew}
use Rattle.laws_happenings.specs.Recording.{events, ticks_of, AllUnstarted}
use Rattle.laws_happenings.proofs.Panel.{prepare_anew, start_anew}
use Rattle.laws_happenings.proofs.Ticks.{ticks_counted}
use Rattle.demands.specs.Board.{Board, gate_in}
use Rattle.demands.specs.AsDefined.{AsDefined}
use Rattle.demands.specs.Recorder.{Begun, RunsOn, FiresAtFirst, OnlyItsPlace}
use Rattle.demands.proofs.Followed.{recorder_then, memory_then}

module _ (h last : Board) (s : Since) (now : AsDefined h s) where
  -- the byte that finishes an accepted start
  pub start_begun : (b : ℕ) → AsDefined last (after s (byte b)) → (m : Message) (more : List Message) → finished_by s.bytes b ≡ m ∷ more
      → is_start (gate_in h) m ≡ true → Begun last
  start_begun b end m more finished start =
      let begins = start_begins (gate_in h) m start in
      let gate : gate_in last ≡ (answered (gate_in h) m).gate =
      end.gate
      ∙ ap (λ (ms : List Message). (after_messages (with_byte s b) ms).gate) finished
      ∙ ap (λ (g : Gate). (answered g m).gate) (sym now.gate) in
      record { plan = begins.plan; recorder = ap (λ (g : Gate). g.recorder) gate ∙ begins.recorder }

  -- the panel's start, where it starts the recorder anew (2026-06)
  pub panel_begun : AsDefined last (after s (aside starts)) → starts_anew (gate_in h) ≡ true → Begun last
  unfolding beside
  panel_begun end start =
      let begins = start_anew (gate_in h) start in
      let gate : gate_in last ≡ (panel_starts (gate_in h)).gate = end.gate ∙ ap (λ (g : Gate). (panel_starts g).gate) (sym now.gate) in
      record { plan = begins.0; recorder = ap (λ (g : Gate). g.recorder) gate ∙ begins.1 }

  -- and its preparing, where it is accepted
  pub panel_prepared : (setup : List ℕ) → AsDefined last (after s (aside (prepares setup))) → prepares_anew (gate_in h) setup ≡ true
      → (gate_in last).recorder ≡ recorder_prepared false setup
  unfolding beside
  panel_prepared setup end accepted =
      ap (λ (g : Gate). g.recorder) (end.gate ∙ ap (λ (g : Gate). (panel_prepares g setup).gate) (sym now.gate)) ∙ prepare_anew (gate_in h) setup accepted

  module _ (p : Plan) (r : DocumentRun) (has : (gate_in h).recorder ≡ planned p r) where
    pub tick_touches : PlanFits p → length h.memory ≡ memory_end → AsDefined last (after s (aside tick)) → OnlyItsPlace p r h last
    unfolding beside
    tick_touches fits size end =
        let same : gate_in last ≡ beside (gate_in h) tick = end.gate ∙ ap (λ (g : Gate). beside g tick) (sym now.gate) in
        let memory : last.memory ≡ memory_after_tick p r h.memory =
        ap (λ (g : Gate). g.memory) same ∙ ap (λ (q : Recorder). ticked_memory q h.memory) has in
        let place = place_begins p r.place in
        record {
          before = ap (take place) memory ∙ tick_before p r h.memory;
          behind = ap (drop (place + set_size p.variables)) memory ∙ tick_behind p r h.memory fits size;
          scope = ap (λ (g : Gate). g.scope) same;
          application = ap (λ (g : Gate). g.application) same;
          tables = ap (λ (g : Gate). g.tables) same;
          answers = end.answers ∙ sym now.answers;
        }

    -- since an accepted start the trigger comes at the first set at or beyond the threshold
    module _ (size : length h.memory ≡ memory_end) (hs : List Happening) (quiet : AllUnstarted s hs) (end : AsDefined last (after_all s hs)) where
      pub run_fires : r ≡ started → FiresAtFirst p h.memory (events s hs) last
      run_fires begins =
          let just : (gate_in h).recorder ≡ planned p started = has ∙ ap (planned p) begins in
          let then : Recording = history.after p (begun h.memory) (events s hs) in
          let memory : then.memory ≡ last.memory = sym (memory_then h s now size p started just hs last end quiet) in
          record {
            run = then.run;
            recorder = recorder_then h s now size p started just hs last end quiet;
            only-there =
                subst
                (λ (m : List ℕ). TriggersNext p (record { run = then.run; memory = m }) → (beyond_in p m ≡ true) × NoneBeyond p (begun h.memory) (events s hs))
                memory (trigger_at_first p h.memory (events s hs));
            there =
                subst
                (λ (m : List ℕ). takes_next (record { run = then.run; memory = m }) ≡ true → beyond_in p m ≡ true → NoneBeyond p (begun h.memory) (events s hs) → TriggersNext p (record { run = then.run; memory = m }))
                memory (first_triggers p h.memory (events s hs));
          }

    -- the trigger comes at the next tick, and behind that tick these happen
    module _ (size : length h.memory ≡ memory_end) (hs : List Happening) (quiet : AllUnstarted s (aside tick ∷ hs)) (end : AsDefined last (after_all s (aside tick ∷ hs))) where
      pub run_stops : TriggersNext p (record { run = r; memory = h.memory }) → Unstopped (events (after s (aside tick)) hs)
          → RunsOn p last (ltb (ticks_of hs) (p.post_trigger * suc p.divider))
      run_stops triggers unstopped =
          let g : Recording = record { run = r; memory = h.memory } in
          record {
            run = _;
            recorder = recorder_then h s now size p r has (aside tick ∷ hs) last end quiet;
            is =
                stops p g (events (after s (aside tick)) hs) triggers unstopped
                ∙ ap (λ (n : ℕ). ltb n (p.post_trigger * suc p.divider)) (ticks_counted hs (after s (aside tick)));
          }
