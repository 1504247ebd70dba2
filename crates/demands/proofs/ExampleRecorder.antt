-- The premises of the theorems are met: each speaks of a part of the example's run, and of it says this.
use mathlib.Core.Path.{◌≡◌, refl, sym, ap, subst, ◌∙◌}
use mathlib.Core.Bool.{false}
use mathlib.Core.List.{List, [], ◌∷◌, ◌++◌}
use Prim.Native.Nat.{ℕ}
use lib.ListN.{length}
use native.Mathlib.Omega.{arith}
use Rattle.document.specs.Gate.{Gate}
use Rattle.document.specs.Run.{started, set_of}
use Rattle.document.specs.Recorder.Recorder.{planned}
use Rattle.document.specs.Sets.{sets_taken}
use Rattle.document.specs.Asides.Aside.{tick}
use Rattle.document.specs.Happenings.{after_all}
use Rattle.document.specs.Happenings.Happening.{byte, aside}
use Rattle.document.proofs.Cases.{neither}
use Rattle.document_outcomes.specs.Starts.{is_start}
use Rattle.recorder_history.specs.History.{memories_left, TriggersNext}
use Rattle.laws_happenings.specs.Recording.{events, AllUndisturbed}
use Rattle.laws_happenings.specs.Example.{zeros, reset, plan, before, begun, earlier, risen, one_taken, later, stopping, since, start as starts, starting}
use Rattle.laws_happenings.proofs.Example.{begun_recorder, since_undisturbed, since_sets, earlier_unstarted, risen_recorder, risen_triggers, later_unstarted, later_unstopped, later_recorder, start_finished, start_starts, computed}
use Rattle.demands.specs.Board.{Board, gate_in}
use Rattle.demands.specs.Run.{Run}
use Rattle.demands.specs.Recorded.{Recorded}
use Rattle.demands.specs.Recorder.{Begun, RunsOn, FiresAtFirst}
use Rattle.demands.specs.Trace.{TraceKept, TraceStays}
use Rattle.demands.proofs.Demands.{recorder_history, recorder_fires, recorder_stops, recorder_begun, trace_kept, stopped_stays}
use Rattle.demands.proofs.Example.{block, begins, long, lent, reset_there, At, to, goes, further, are_next, at_gate, given}

-- ---- the recorder, since the panel's start

abbrev start : At before
start = to before since (starting ++ (byte 0x3F ∷ [])) refl

just : (gate_in start.there).recorder ≡ planned plan started
just = ap (λ (g : Gate). g.recorder) (at_gate before start) ∙ begun_recorder

pub ended : (last : Board) × Run start.there since last
ended = goes before since (starting ++ (byte 0x3F ∷ [])) refl start

-- three sets were taken, of which the ring holds the last two
pub history_there : Recorded plan ended.0 ((0 ∷ []) ∷ (7 ∷ []) ∷ (9 ∷ []) ∷ [])
history_there =
    subst (Recorded plan ended.0)
    (ap (λ (g : Gate). sets_taken plan (memories_left g.memory (events begun since))) (at_gate before start) ∙ since_sets)
    (recorder_history block zeros [] begins long lent reset_there before start.there start.are start.run plan just since ended.0
    (are_next before since (starting ++ (byte 0x3F ∷ [])) refl) since_undisturbed ended.1)

-- the trigger comes at the first set at or beyond the threshold
abbrev pub until_risen : (last : Board) × Run start.there earlier last
until_risen = goes before earlier ((aside tick ∷ later) ++ stopping ++ starting ++ (byte 0x3F ∷ [])) refl start

pub fires_there : FiresAtFirst plan start.there.memory (events begun earlier) until_risen.0
fires_there =
    recorder_fires block zeros [] begins long lent reset_there before start.there start.are start.run plan just earlier until_risen.0
    (are_next before earlier ((aside tick ∷ later) ++ stopping ++ starting ++ (byte 0x3F ∷ [])) refl) earlier_unstarted until_risen.1

-- and stops with the one further set: two ticks behind it, it is stopped
abbrev rise : At (before ++ earlier)
rise = further before earlier ((aside tick ∷ later) ++ stopping ++ starting ++ (byte 0x3F ∷ [])) refl start

has : (gate_in rise.there).recorder ≡ planned plan one_taken
has = ap (λ (g : Gate). g.recorder) (at_gate (before ++ earlier) rise) ∙ risen_recorder

triggers : TriggersNext plan (record { run = one_taken; memory = rise.there.memory })
triggers =
    subst (λ (m : List ℕ). TriggersNext plan (record { run = one_taken; memory = m })) (ap (λ (g : Gate). g.memory) (sym (at_gate (before ++ earlier) rise))) risen_triggers

pub behind_rise : (last : Board) × Run rise.there (aside tick ∷ later) last
behind_rise = goes (before ++ earlier) (aside tick ∷ later) (stopping ++ starting ++ (byte 0x3F ∷ [])) refl rise

pub stops_there : RunsOn plan behind_rise.0 false
stops_there =
    recorder_stops block zeros [] begins long lent reset_there (before ++ earlier) rise.there rise.are rise.run plan one_taken has triggers later behind_rise.0
    (are_next (before ++ earlier ++ (aside tick ∷ [])) later (stopping ++ starting ++ (byte 0x3F ∷ [])) refl) later_unstarted later_unstopped behind_rise.1

-- the set at which it came, 7, is read among the last: three were taken in all
pub trace_end : (last : Board) × Run until_risen.0 (aside tick ∷ (later ++ stopping)) last
trace_end = goes (before ++ earlier) (aside tick ∷ (later ++ stopping)) (starting ++ (byte 0x3F ∷ [])) refl rise

its_set : set_of plan risen.gate.memory ≡ 7 ∷ []
unfolding computed
its_set = refl

pub trace_there : TraceKept plan trace_end.0 3 (7 ∷ [])
trace_there =
    let memory = ap (λ (g : Gate). g.memory) (at_gate (before ++ earlier) rise) in
    let count : length (sets_taken plan (memories_left start.there.memory (events begun since))) ≡ 3 =
    ap (λ (g : Gate). length (sets_taken plan (memories_left g.memory (events begun since)))) (at_gate before start) ∙ ap length since_sets in
    subst (λ (n : ℕ). TraceKept plan trace_end.0 n (7 ∷ [])) count
    (subst (TraceKept plan trace_end.0 _) (ap (set_of plan) memory ∙ its_set)
    (trace_kept block zeros [] begins long lent reset_there before start.there start.are start.run plan just earlier until_risen.0
    (are_next before earlier ((aside tick ∷ later) ++ stopping ++ starting ++ (byte 0x3F ∷ [])) refl) until_risen.1
    one_taken has triggers (omega arith) (later ++ stopping) trace_end.0
    (are_next (before ++ earlier ++ (aside tick ∷ [])) (later ++ stopping) (starting ++ (byte 0x3F ∷ [])) refl) trace_end.1 since_undisturbed))

-- stopped, its trace stays over what is left
abbrev stopped : At (before ++ earlier ++ (aside tick ∷ later))
stopped = to (before ++ earlier ++ (aside tick ∷ later)) stopping (starting ++ (byte 0x3F ∷ [])) refl

stopping_quiet : AllUndisturbed (after_all reset (before ++ earlier ++ (aside tick ∷ later))) stopping
unfolding computed
stopping_quiet = ((refl, neither), (tt, (tt, (refl, tt))))

pub over : (last : Board) × Run stopped.there stopping last
over = goes (before ++ earlier ++ (aside tick ∷ later)) stopping (starting ++ (byte 0x3F ∷ [])) refl stopped

pub stopped_there : TraceStays stopped.there over.0
stopped_there =
    stopped_stays block zeros [] begins long lent reset_there (before ++ earlier ++ (aside tick ∷ later)) stopped.there stopped.are stopped.run plan _
    (ap (λ (g : Gate). g.recorder) (at_gate (before ++ earlier ++ (aside tick ∷ later)) stopped) ∙ later_recorder) refl stopping over.0
    (are_next (before ++ earlier ++ (aside tick ∷ later)) stopping (starting ++ (byte 0x3F ∷ [])) refl) over.1 stopping_quiet

-- a start over the line
abbrev before_start : At (before ++ since ++ starting)
before_start = to (before ++ since ++ starting) (byte 0x3F ∷ []) [] refl

pub begun_there : Begun (given (before ++ since ++ starting) before_start 0x3F).0
begun_there =
    let next = given (before ++ since ++ starting) before_start 0x3F in
    recorder_begun block zeros [] begins long lent reset_there (before ++ since ++ starting) before_start.there before_start.are before_start.run
    0x3F next.0 (omega arith) next.1 starts [] start_finished
    (ap (λ (g : Gate). is_start g starts) (at_gate (before ++ since ++ starting) before_start) ∙ start_starts)
