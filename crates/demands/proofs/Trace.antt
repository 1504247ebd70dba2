-- The recorder's trace along a run: what is kept of it, what a tick makes of it, and what is told of it.
use mathlib.Core.Path.{◌≡◌, refl, sym, ap, subst, ◌∙◌}
use mathlib.Core.Bool.{Bool, true, false, cond}
use mathlib.Core.List.{List, [], ◌∷◌, ◌++◌, append_assoc}
use Prim.Native.Nat.{ℕ, ◌<◌, ◌≤◌}
use borrow.Author.Tests.{eq-eqb}
use lib.ListN.{length, drop}
use Rattle.document.specs.Numbers.{done}
use Rattle.document.specs.Areas.{buffer_begin, memory_end}
use Rattle.document.specs.Answer.{Answer}
use Rattle.document.specs.Message.{Message, finished_by}
use Rattle.document.specs.Variables.{address_width}
use Rattle.document.specs.Services.{service_of}
use Rattle.document.specs.Plan.{Plan, plan_in}
use Rattle.document.specs.Trigger.{trigger_value}
use Rattle.document.specs.Run.{Watch, Run as DocumentRun, started, prepared, start_index, set_of, goes_on, set_taken, ran_tick}
use Rattle.document.specs.Run.Watch.{previous, triggered}
use Rattle.document.specs.Recorder.{Recorder, recorder_prepared, buffer_answer, ticked, ticked_memory}
use Rattle.document.specs.Recorder.Recorder.{absent, planned}
use Rattle.document.specs.Sets.{sets_taken}
use Rattle.document.specs.Gate.{Gate, says}
use Rattle.document.specs.Refusals.{refusal}
use Rattle.document.specs.Commands.{doing, served, answered}
use Rattle.document.specs.Asides.{beside}
use Rattle.document.specs.Asides.Aside.{tick}
use Rattle.document.specs.Happenings.{Happening, Since, after, after_all}
use Rattle.document.specs.Happenings.Happening.{byte, aside}
use Rattle.recorder_history.specs.History as history
use Rattle.recorder_history.specs.History.{PlanFits, Event, Recording, begun, AllLeaveBuffer, memories_left, TriggersNext, Unstopped}
use Rattle.recorder_history.specs.History.Event.{tick as ticks}
use Rattle.recorder_history.specs.Trace.{index_after, RisingWord}
use Rattle.recorder_history.proofs.Ticks.{takes_run, nothing_taken}
use Rattle.recorder_history.proofs.Untriggered.{mode_0_runs}
use Rattle.recorder_history.proofs.Index.{start_index_lem}
use Rattle.recorder_history.proofs.Kept.{stopped_run_kept, stopped_kept}
use Rattle.recorder_history.proofs.Trace.{trigger_kept}
use Rattle.recorder_history.proofs.Saturated.{saturated_beyond, saturated_short}
use Rattle.document_outcomes.specs.Sending.{unrefused_so_far}
use Rattle.document_outcomes.proofs.Sending.{as_served}
use Rattle.laws_happenings.specs.Bytes.{bytes_of, AreBytes}
use Rattle.laws_happenings.specs.Recording.{events_at, events, AllUnstarted, AllUndisturbed}
use Rattle.laws_happenings.proofs.Resync.{bytes_after}
use Rattle.laws_happenings.proofs.Follows.{unstarted}
use Rattle.demands.specs.Board.{Board, gate_in}
use Rattle.demands.specs.Run.{Step, Run}
use Rattle.demands.specs.AsDefined.{AsDefined}
use Rattle.demands.specs.Recorder.{RunsOn}
use Rattle.demands.specs.Applying.{OnlySaid}
use Rattle.demands.specs.Trace.{TraceKept, TraceStays, takes_set, Watches, Indexed, query_answer, status_answer}
use Rattle.demands.proofs.Reached.{Reached, plan_fits}
use Rattle.demands.proofs.Runs.{reached_step}
use Rattle.demands.proofs.Blocks.{reached_run}
use Rattle.demands.proofs.Followed.{followed, recorder_then, memory_then}
use Rattle.demands.proofs.Applying.{only_said}

-- ---- one list of what happens behind another

after_append : (hs ks : List Happening) (s : Since) → after_all s (hs ++ ks) ≡ after_all (after_all s hs) ks
after_append [] ks s = refl
after_append (h ∷ hs) ks s = after_append hs ks (after s h)

events_append : (hs ks : List Happening) (s : Since) → events s (hs ++ ks) ≡ events s hs ++ events (after_all s hs) ks
events_append [] ks s = refl
events_append (h ∷ hs) ks s =
    ap (λ (es : List Event). events_at s h ++ es) (events_append hs ks (after s h))
    ∙ sym (append_assoc (events_at s h) (events (after s h) hs) (events (after_all (after s h) hs) ks))

unstarted_before : (hs ks : List Happening) (s : Since) → AllUnstarted s (hs ++ ks) → AllUnstarted s hs
unstarted_before [] ks s quiet = tt
unstarted_before (h ∷ hs) ks s quiet = (quiet.0, unstarted_before hs ks (after s h) quiet.1)

-- ---- what is told of a recorder

module _ (g : Gate) (m : Message) where
  -- an accepted 0xC4, or 0xC9
  query_answered : (p : Plan) (r : DocumentRun) → g.recorder ≡ planned p r → (ex : Bool) → m.command ≡ cond ex 0xC9 0xC4 → refusal g m ≡ done
      → answered g m ≡ says g done (query_answer (address_width ex) (start_index r)).body
  unfolding answered service_of
  query_answered p r has ex is none =
      rw (eq-eqb (refusal g m) done none) (ap (λ (c : ℕ). doing (service_of c).operation g (service_of c) m.body) is ∙ by_width ex)
    where
      by_width : (wide : Bool) → doing (service_of (cond wide 0xC9 0xC4)).operation g (service_of (cond wide 0xC9 0xC4)) m.body ≡ says g done (query_answer (address_width wide) (start_index r)).body
      by_width true = ap (λ (q : Recorder). says g done (buffer_answer 4 q)) has
      by_width false = ap (λ (q : Recorder). says g done (buffer_answer 2 q)) has

  -- "A recorder prepared and not started since" (2026-06)
  module _ (setup : List ℕ) (has : g.recorder ≡ recorder_prepared false setup) (so_far : unrefused_so_far m ≡ true) where
    -- "answers 0x02 to 0xC3"
    prepared_asked : m.command ≡ 0xC3 → answered g m ≡ says g (status_answer false).status (status_answer false).body
    unfolding service_of served
    prepared_asked is = as_served g m so_far 0xC3 is ∙ rw has refl

    -- "and start index 0 to 0xC4"
    prepared_queried : (ex : Bool) → m.command ≡ cond ex 0xC9 0xC4 → answered g m ≡ says g done (query_answer (address_width ex) 0).body
    unfolding service_of served
    prepared_queried true is = as_served g m so_far 0xC9 is ∙ rw has refl
    prepared_queried false is = as_served g m so_far 0xC4 is ∙ rw has refl

-- ---- along a run

module _ (h : Board) (s : Since) (reached : Reached h s) where
  size : length h.memory ≡ memory_end
  size = reached.within.memory_part.size

  -- after these the byte comes that finishes a message, which is answered so and changes nothing
  module _ (hs : List Happening) (mid : Board) (are : AreBytes hs) (on : Run h hs mid) where
    reached_mid : Reached mid (after_all s hs)
    reached_mid = reached_run h mid hs on s are reached

    said : (b : ℕ) (last : Board) → b < 256 → Step mid (byte b) last → (m : Message) (more : List Message) → finished_by (s.bytes ++ bytes_of hs) b ≡ m ∷ more
        → (a : Answer) → answered (gate_in mid) m ≡ says (gate_in mid) a.status a.body → OnlySaid a mid last
    said b last small step m more finished a is =
        only_said mid last (after_all s hs) reached_mid.stands b (reached_step mid (after_all s hs) reached_mid (byte b) last small step).stands m more
        (ap (λ (l : List ℕ). finished_by l b) (bytes_after hs s) ∙ finished) a.status a.body is

  -- ---- a tick

  gate_ticked : (last : Board) → Step h (aside tick) last → gate_in last ≡ beside (gate_in h) tick
  gate_ticked last step =
      (reached_step h s reached (aside tick) last tt step).stands.gate ∙ ap (λ (g : Gate). beside g tick) (sym reached.stands.gate)

  nothing_stored : (q : Recorder) (m : List ℕ) → takes_set q ≡ false → ticked_memory q m ≡ m
  nothing_stored absent m none = refl
  nothing_stored (planned p r) m none = nothing_taken p r m none

  -- one that takes no set
  pub memory_stays : (last : Board) → Step h (aside tick) last → takes_set (gate_in h).recorder ≡ false → last.memory ≡ h.memory
  unfolding beside
  memory_stays last step none = ap (λ (g : Gate). g.memory) (gate_ticked last step) ∙ nothing_stored (gate_in h).recorder h.memory none

  -- ---- a stopped recorder

  module _ (p : Plan) (r : DocumentRun) (has : (gate_in h).recorder ≡ planned p r) (still : r.running ≡ false) (hs : List Happening) (last : Board)
      (are : AreBytes hs) (on : Run h hs last) where
    end_still : AsDefined last (after_all s hs)
    end_still = (reached_mid hs last are on).stands

    pub recorder_stays : AllUnstarted s hs → (gate_in last).recorder ≡ (gate_in h).recorder
    recorder_stays quiet =
        recorder_then h s reached.stands size p r has hs last end_still quiet
        ∙ ap (planned p) (stopped_run_kept p (events s hs) (record { run = r; memory = h.memory }) still)
        ∙ sym has

    pub trace_stays : AllUndisturbed s hs → TraceStays h last
    trace_stays undisturbed =
        let quiet = unstarted hs s undisturbed in
        let leaves = (followed h s reached.stands size p r has hs last end_still quiet).leaves undisturbed in
        record {
          recorder = recorder_stays quiet;
          buffer =
              ap (drop buffer_begin) (memory_then h s reached.stands size p r has hs last end_still quiet)
              ∙ (stopped_kept p (events s hs) (record { run = r; memory = h.memory }) still leaves).buffer;
        }

  -- "A recorder prepared and not started since" (2026-06)
  module _ (setup : List ℕ) (has : (gate_in h).recorder ≡ recorder_prepared false setup) (hs : List Happening) (mid : Board) (are : AreBytes hs) (on : Run h hs mid)
      (quiet : AllUnstarted s hs) where
    pub prepared_then : (gate_in mid).recorder ≡ recorder_prepared false setup
    prepared_then = recorder_stays (plan_in false setup) prepared has refl hs mid are on quiet ∙ has

    module _ (b : ℕ) (last : Board) (small : b < 256) (step : Step mid (byte b) last) (m : Message) (more : List Message)
        (finished : finished_by (s.bytes ++ bytes_of hs) b ≡ m ∷ more) (so_far : unrefused_so_far m ≡ true) where
      pub prepared_stopped : m.command ≡ 0xC3 → OnlySaid (status_answer false) mid last
      prepared_stopped is =
          said hs mid are on b last small step m more finished (status_answer false)
          (prepared_asked (gate_in mid) m setup prepared_then so_far is)

      pub prepared_at_0 : (ex : Bool) → m.command ≡ cond ex 0xC9 0xC4 → OnlySaid (query_answer (address_width ex) 0) mid last
      prepared_at_0 ex is =
          said hs mid are on b last small step m more finished (query_answer (address_width ex) 0) (prepared_queried (gate_in mid) m setup prepared_then so_far ex is)

  -- ---- since a start

  module _ (p : Plan) (just : (gate_in h).recorder ≡ planned p started) where
    fits : PlanFits p
    fits = plan_fits h s reached p started just

    -- the first tick takes a set
    module _ (last : Board) (step : Step h (aside tick) last) where
      ticked_recorder : (gate_in last).recorder ≡ planned p (ran_tick p started h.memory)
      unfolding beside
      ticked_recorder = ap (λ (g : Gate). g.recorder) (gate_ticked last step) ∙ ap (λ (q : Recorder). ticked q h.memory) just

      first_watched : (w : Watch) → (set_taken p started h.memory).watch ≡ w → Watches p last w
      first_watched w is =
          record {
            run = set_taken p started h.memory;
            recorder = ticked_recorder ∙ ap (planned p) (takes_run p started h.memory refl refl);
            watch = is;
            running = ap goes_on is;
          }

      module _ (reads : trigger_value p.trigger h.memory ≡ 0x8000) where
        pub saturated_comes : RisingWord p.trigger 0 → p.trigger.threshold ≤ 0x8000 → Watches p last (triggered p.post_trigger)
        saturated_comes t above = first_watched (triggered p.post_trigger) (rw (saturated_beyond p h.memory reads t above))

        pub saturated_waits : RisingWord p.trigger 1 → p.trigger.threshold < 0x8000 → Watches p last (previous 0x8000)
        saturated_waits t clear = first_watched (previous 0x8000) (rw (saturated_short p h.memory reads t clear) (ap previous reads))

    module _ (hs : List Happening) (mid : Board) (are : AreBytes hs) (on : Run h hs mid) where
      at_mid : AsDefined mid (after_all s hs)
      at_mid = (reached_mid hs mid are on).stands

      module _ (quiet : AllUnstarted s hs) where
        pub indexed : Indexed p mid (length (sets_taken p (memories_left h.memory (events s hs))))
        indexed =
            record {
              run = (history.after p (begun h.memory) (events s hs)).run;
              recorder = recorder_then h s reached.stands size p started just hs mid at_mid quiet;
              index = start_index_lem p fits h.memory (events s hs);
            }

        abbrev index : ℕ
        index = index_after p.samples (length (sets_taken p (memories_left h.memory (events s hs))))

        pub index_told : (ex : Bool) (b : ℕ) (last : Board) → b < 256 → Step mid (byte b) last → (m : Message) (more : List Message)
            → finished_by (s.bytes ++ bytes_of hs) b ≡ m ∷ more → m.command ≡ cond ex 0xC9 0xC4 → refusal (gate_in mid) m ≡ done
            → OnlySaid (query_answer (address_width ex) (index_after p.samples (length (sets_taken p (memories_left h.memory (events s hs)))))) mid last
        index_told ex b last small step m more finished is accepted =
            said hs mid are on b last small step m more finished (query_answer (address_width ex) index)
            (query_answered (gate_in mid) m p indexed.run indexed.recorder ex is accepted
            ∙ ap (λ (n : ℕ). says (gate_in mid) done (query_answer (address_width ex) n).body) indexed.index)

        pub mode_0_on : p.trigger.mode ≡ 0 → Unstopped (events s hs) → RunsOn p mid true
        mode_0_on none unstopped =
            record {
              run = (history.after p (begun h.memory) (events s hs)).run;
              recorder = recorder_then h s reached.stands size p started just hs mid at_mid quiet;
              is = mode_0_runs p h.memory (events s hs) none unstopped;
            }

      -- the trigger comes at the tick behind `hs`, and `fs` is what happens behind that
      module _ (fs : List Happening) (last : Board) (later : AreBytes fs) (then : Run mid (aside tick ∷ fs) last) (quiet : AllUndisturbed s (hs ++ aside tick ∷ fs)) where
        abbrev all : List Happening
        all = hs ++ aside tick ∷ fs

        end : AsDefined last (after_all s (hs ++ aside tick ∷ fs))
        end =
            subst (AsDefined last) (sym (after_append hs (aside tick ∷ fs) s))
            (reached_run mid last (aside tick ∷ fs) then (after_all s hs) (tt, later) (reached_mid hs mid are on)).stands

        same_run : {a b : DocumentRun} → planned p a ≡ planned p b → a ≡ b
        same_run e = cc

        pub set_kept : (r : DocumentRun) → (gate_in mid).recorder ≡ planned p r → TriggersNext p (record { run = r; memory = mid.memory }) → p.post_trigger < p.samples
            → TraceKept p last (length (sets_taken p (memories_left h.memory (events s (hs ++ aside tick ∷ fs))))) (set_of p mid.memory)
        set_kept r is triggers few =
            let calm : AllUnstarted s all = unstarted all s quiet in
            let early : AllUnstarted s hs = unstarted_before hs (aside tick ∷ fs) s calm in
            let behind : List Event = events (after (after_all s hs) (aside tick)) fs in
            let g : Recording = history.after p (begun h.memory) (events s hs) in
            let run : r ≡ g.run = same_run (sym is ∙ recorder_then h s reached.stands size p started just hs mid at_mid early) in
            let memory : mid.memory ≡ g.memory = memory_then h s reached.stands size p started just hs mid at_mid early in
            let parts : events s all ≡ events s hs ++ ticks ∷ behind = events_append hs (aside tick ∷ fs) s in
            let left : AllLeaveBuffer p (begun h.memory) (events s all) = (followed h s reached.stands size p started just all last end calm).leaves quiet in
            let kept =
            trigger_kept p h.memory (events s hs) behind fits size
            (subst (λ (es : List Event). AllLeaveBuffer p (begun h.memory) es) parts left)
            (subst (λ (q : Recording). TriggersNext p q) (λ i. record { run = run i; memory = memory i }) triggers) few in
            record {
              run = (history.after p (begun h.memory) (events s all)).run;
              recorder = recorder_then h s reached.stands size p started just all last end calm;
              kept = rw (memory, memory_then h s reached.stands size p started just all last end calm, parts) kept;
            }
