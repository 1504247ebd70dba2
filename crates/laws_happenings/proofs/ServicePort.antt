-- "an answer on the service port depends on Modbus traffic only through bytes 0 to 8,191 as commands, ticks and registering found them":
-- what happens to the service port can be replayed without the frames, from what was found alone.
use mathlib.Core.Path.{◌≡◌, refl, sym, ap, subst, ◌∙◌}
use mathlib.Core.Bool.{true, false, cond}
use mathlib.Core.List.{List, [], ◌∷◌, ◌++◌}
use Prim.Native.Nat.{ℕ}
use lib.Dec.{eqb}
use lib.ListN.{take, drop, take-append-drop}
use Rattle.document.specs.Areas.{variables_end}
use Rattle.document.specs.Numbers.{done}
use Rattle.document.specs.Message.{Message, finished_by}
use Rattle.document.specs.Recorder.{Recorder, recorder_started}
use Rattle.document.specs.Gate.{Gate, with_memory, with_recorder}
use Rattle.document.specs.Refusals.{first_of, recorder_lines}
use Rattle.document.specs.Panel.{prepare_lines, panel_prepares, panel_starts}
use Rattle.document.specs.Asides.{Aside, beside}
use Rattle.document.specs.Happenings.{Happening, Since, after, after_all}
use Rattle.document.specs.Happenings.Happening.{byte, aside}
use Rattle.document.proofs.Cases.{split, neither}
use Rattle.laws_happenings.specs.Asides.{is_program, is_controller, CommandStep, command_after, handed_by, RecorderStep, is_ticked, recorder_after, row, is_tick, is_own, is_frame}
use Rattle.laws_happenings.specs.Asides.Side.{controller}
use Rattle.laws_happenings.specs.Asides.RecorderStep.{stays, ticked, prepared, started}
use Rattle.laws_happenings.specs.Applying.{handed_at, handed_out}
use Rattle.laws_happenings.specs.Ports.{without_frames, finishes, looks, found, SameBeyond, SameService}
use Rattle.laws_happenings.proofs.Asides.{by_side, leaves}

-- ---- the same but for bytes 0 to 8,191

same_beyond : (g : Gate) → SameBeyond g g
same_beyond g = record { memory = refl; scope = refl; recorder = refl; application = refl; tables = refl }

same_service : (s : Since) → SameService s s
same_service s = record { bytes = refl; answers = refl; gate = same_beyond s.gate }

-- two that are the same as a third
through : (r s t : Since) → SameService r t → SameService s t → SameService r s
through r s t one two =
    record {
      bytes = one.bytes ∙ sym two.bytes;
      answers = one.answers ∙ sym two.answers;
      gate =
          record {
            memory = one.gate.memory ∙ sym two.gate.memory;
            scope = one.gate.scope ∙ sym two.gate.scope;
            recorder = one.gate.recorder ∙ sym two.gate.recorder;
            application = one.gate.application ∙ sym two.gate.application;
            tables = one.gate.tables ∙ sym two.gate.tables;
          };
    }

-- a gate with these bytes 0 to 8,191
abbrev over : Gate → List ℕ → Gate
over g variables = with_memory g (variables ++ drop variables_end g.memory)

abbrev since_over : Since → List ℕ → Since
since_over s variables = record { bytes = s.bytes; gate = over s.gate variables; answers = s.answers }

-- where those are the same too, all is
whole_again : (s t : Since) → SameService s t → s ≡ since_over t (take variables_end s.gate.memory)
whole_again s t same =
    let variables : List ℕ = take variables_end s.gate.memory in
    let memory : s.gate.memory ≡ variables ++ drop variables_end t.gate.memory =
    sym (take-append-drop variables_end s.gate.memory) ∙ ap (λ (l : List ℕ). variables ++ l) same.gate.memory in
    λ j.
    record {
      bytes = same.bytes j;
      gate =
          record {
            memory = memory j;
            scope = same.gate.scope j;
            recorder = same.gate.recorder j;
            application = same.gate.application j;
            tables = same.gate.tables j;
          };
      answers = same.answers j;
    }

-- ---- what does not look at the memory leaves them the same

module _ (g k : Gate) (same : SameBeyond g k) where
  -- the panel looks at the recorder alone
  same_prepared : (setup : List ℕ) → (panel_prepares g setup).gate.recorder ≡ (panel_prepares k setup).gate.recorder
  unfolding panel_prepares
  same_prepared setup =
      let lines : eqb (first_of (prepare_lines g setup)) done ≡ eqb (first_of (prepare_lines k setup)) done =
      ap (λ (r : Recorder). eqb (first_of (prepare_lines (with_recorder g r) setup)) done) same.recorder in
      split (eqb (first_of (prepare_lines g setup)) done) (λ none. rw (none, sym lines ∙ none) refl)
      (λ some. rw (some, sym lines ∙ some) same.recorder)

  same_started : (panel_starts g).gate.recorder ≡ (panel_starts k).gate.recorder
  unfolding panel_starts
  same_started =
      let lines : eqb (first_of (recorder_lines g)) done ≡ eqb (first_of (recorder_lines k)) done =
      ap (λ (r : Recorder). eqb (first_of (recorder_lines (with_recorder g r))) done) same.recorder in
      split (eqb (first_of (recorder_lines g)) done) (λ none. rw (none, sym lines ∙ none) (ap recorder_started same.recorder))
      (λ some. rw (some, sym lines ∙ some) same.recorder)

  same_step : (o : RecorderStep) → is_ticked o ≡ false → recorder_after o g ≡ recorder_after o k
  same_step stays no-tick = same.recorder
  same_step ticked no-tick = neither (sym no-tick)
  same_step (prepared setup) no-tick = same_prepared setup
  same_step started no-tick = same_started

  -- but for ticks nothing beside the line looks at these bytes
  same_beside : (a : Aside) → is_tick a ≡ false → SameBeyond (beside g a) (beside k a)
  same_beside a still =
      let here = leaves g a in
      let there = leaves k a in
      record {
        memory =
            split (is_own a) (λ own. (here.own own k).rest same.memory)
            (λ other. here.rest other still ∙ same.memory ∙ sym (there.rest other still));
        scope = here.scope ∙ same.scope ∙ sym there.scope;
        recorder = here.recorder ∙ same_step (row a).recorder still ∙ sym there.recorder;
        application = here.application ∙ ap (command_after (row a).command) same.application ∙ sym there.application;
        tables = here.tables ∙ same.tables ∙ sym there.tables;
      }

none_finished : (ms : List Message) → finishes ms ≡ false → ms ≡ []
none_finished [] quiet = refl
none_finished (m ∷ ms) quiet = neither (sym quiet)

module _ (s t : Since) (same : SameService s t) where
  same_quiet : (h : Happening) → looks s.bytes h ≡ false → SameService (after s h) (after t h)
  same_quiet (byte b) quiet =
      let here : finished_by s.bytes b ≡ [] = none_finished (finished_by s.bytes b) quiet in
      let there : finished_by t.bytes b ≡ [] = ap (λ (bs : List ℕ). finished_by bs b) (sym same.bytes) ∙ here in
      rw (here, there) (record { bytes = ap (λ (bs : List ℕ). bs ++ (b ∷ [])) same.bytes; answers = same.answers; gate = same.gate })
  same_quiet (aside a) quiet =
      record { bytes = same.bytes; answers = same.answers; gate = same_beside s.gate t.gate same.gate a quiet }

  -- what is handed out is up to the application
  same_handed : (h : Happening) → handed_at s h ≡ handed_at t h
  same_handed (byte b) = refl
  same_handed (aside a) = ap (handed_by (row a).command) same.gate.application

  -- a frame in the one alone
  same_frame : (a : Aside) → is_frame a ≡ true → is_own a ≡ false → SameService (after s (aside a)) t
  same_frame a is other =
      let here = leaves s.gate a in
      let apart = here.apart is in
      let still : is_tick a ≡ false = ap is_ticked apart.1 in
      record {
        bytes = same.bytes;
        answers = same.answers;
        gate =
            record {
              memory = here.rest other still ∙ same.gate.memory;
              scope = here.scope ∙ same.gate.scope;
              recorder = here.recorder ∙ ap (λ (o : RecorderStep). recorder_after o s.gate) apart.1 ∙ same.gate.recorder;
              application = here.application ∙ ap (λ (o : CommandStep). command_after o s.gate.application) apart.0 ∙ same.gate.application;
              tables = here.tables ∙ same.gate.tables;
            };
      }

-- ---- a replay

abbrev first : List (List ℕ) → List ℕ
first [] = []
first (v ∷ vs) = v

abbrev rest : List (List ℕ) → List (List ℕ)
rest [] = []
rest (v ∷ vs) = vs

-- what looks at bytes 0 to 8,191 sees the next of those that were found
abbrev replayed : Since → List Happening → List (List ℕ) → Since
replayed t [] seen = t
replayed t (h ∷ hs) seen =
    cond (looks t.bytes h) (replayed (after (since_over t (first seen)) h) hs (rest seen)) (replayed (after t h) hs seen)

abbrev handed_again : Since → List Happening → List (List ℕ) → List (List ℕ)
handed_again t [] seen = []
handed_again t (h ∷ hs) seen =
    handed_at t h
    ++ cond (looks t.bytes h) (handed_again (after (since_over t (first seen)) h) hs (rest seen)) (handed_again (after t h) hs seen)

-- what happened to s comes to what is replayed from t
record Replays (s : Since) (hs : List Happening) (t : Since) (ks : List Happening) (seen : List (List ℕ)) : Type 0 where
  ends : SameService (after_all s hs) (replayed t ks seen)
  hands : handed_out s hs ≡ handed_again t ks seen

module _ (s t : Since) (same : SameService s t) (hs ks : List Happening) where
  replay_on : (h : Happening) → ((p q : Since) → SameService p q → Replays p hs q ks (found p hs)) → Replays s (h ∷ hs) t (h ∷ ks) (found s (h ∷ hs))
  replay_on h on =
      let there : looks t.bytes h ≡ looks s.bytes h = ap (λ (bs : List ℕ). looks bs h) (sym same.bytes) in
      split (looks s.bytes h)
      (λ seen.
      let next = on (after s h) (after (since_over t (take variables_end s.gate.memory)) h)
      (subst (λ (q : Since). SameService (after s h) (after q h)) (whole_again s t same) (same_service (after s h))) in
      record {
        ends = rw (there ∙ seen, seen) next.ends;
        hands = rw (there ∙ seen, seen) (λ j. same_handed s t same h j ++ next.hands j);
      })
      (λ quiet.
      let next = on (after s h) (after t h) (same_quiet s t same h quiet) in
      record {
        ends = rw (there ∙ quiet, quiet) next.ends;
        hands = rw (there ∙ quiet, quiet) (λ j. same_handed s t same h j ++ next.hands j);
      })

  -- it finds nothing for the service port, and hands nothing out
  replay_frame : (a : Aside) → (row a).side ≡ controller → ((p q : Since) → SameService p q → Replays p hs q ks (found p hs))
      → Replays s (aside a ∷ hs) t ks (found s (aside a ∷ hs))
  replay_frame a is on =
      let apart = (leaves s.gate a).apart (ap is_controller is) in
      let next = on (after s (aside a)) t (same_frame s t same a (ap is_controller is) (ap is_program is)) in
      record {
        ends = rw (ap is_ticked apart.1) next.ends;
        hands = ap (λ (o : CommandStep). handed_by o s.gate.application ++ handed_out (after s (aside a)) hs) apart.0 ∙ rw (ap is_ticked apart.1) next.hands;
      }

replay_agrees : (hs : List Happening) (s t : Since) → SameService s t → Replays s hs t (without_frames hs) (found s hs)
replay_agrees [] s t same = record { ends = same; hands = refl }
replay_agrees (byte b ∷ hs) s t same = replay_on s t same hs (without_frames hs) (byte b) (replay_agrees hs)
replay_agrees (aside a ∷ hs) s t same =
    by_side (row a).side
    (λ own. rw own (replay_on s t same hs (without_frames hs) (aside a) (replay_agrees hs)))
    (λ service. rw service (replay_on s t same hs (without_frames hs) (aside a) (replay_agrees hs)))
    (λ frame. rw frame (replay_frame s t same hs (without_frames hs) a frame (replay_agrees hs)))

-- two that are the same but for frames, and found the same, come to the same, and the gate's own program is handed the same commands
module _ (hs ks : List Happening) (s t : Since) (same : SameService s t) (happened : without_frames hs ≡ without_frames ks) (seen : found s hs ≡ found t ks) where
  one : Replays s hs t (without_frames ks) (found t ks)
  one = subst (λ (l : List Happening). Replays s hs t l (found t ks)) happened (subst (λ (l : List (List ℕ)). Replays s hs t (without_frames hs) l) seen (replay_agrees hs s t same))

  other : Replays t ks t (without_frames ks) (found t ks)
  other = replay_agrees ks t t (same_service t)

  pub service_same : SameService (after_all s hs) (after_all t ks)
  service_same = through (after_all s hs) (after_all t ks) (replayed t (without_frames ks) (found t ks)) one.ends other.ends

  pub commands_same : handed_out s hs ≡ handed_out t ks
  commands_same = one.hands ∙ sym other.hands
