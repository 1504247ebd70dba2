-- From one accepted start to the next the gate's recorder and memory are those of the recorder's own history.
use mathlib.Core.Path.{◌≡◌, refl, sym, ap, subst, ◌∙◌}
use mathlib.Core.Bool.{true, false}
use mathlib.Core.List.{List, [], ◌∷◌, ◌++◌}
use Prim.Native.Nat.{ℕ}
use lib.ListN.{length, drop}
use Rattle.document.specs.Areas.{buffer_begin, memory_end}
use Rattle.document.specs.Message.{Message, finished_by}
use Rattle.document.specs.Plan.{Plan}
use Rattle.document.specs.Run.{ran_tick, memory_after_tick}
use Rattle.document.specs.Recorder.{Recorder, ticked, ticked_memory}
use Rattle.document.specs.Recorder.Recorder.{planned}
use Rattle.document.specs.Gate.{Gate}
use Rattle.document.specs.Commands.{answered}
use Rattle.document.specs.Happenings.{Happening, Since, after_messages, after, after_all}
use Rattle.document.specs.Asides.{Aside, beside}
use Rattle.document.specs.Happenings.Happening.{byte, aside}
use Rattle.document.proofs.Cases.{split}
use Rattle.recorder_history.specs.History.{Event, Recording, AllLeaveBuffer}
use Rattle.recorder_history.specs.History as history
use Rattle.document_outcomes.specs.Starts.{is_start, is_stop}
use Rattle.document_outcomes.proofs.Recording.{stop_stops, others_pass}
use Rattle.laws_happenings.specs.Bytes.{with_byte}
use Rattle.laws_happenings.specs.Recording.{events_of, events_beside, events_at, events, NoStart, Unstarted, AllUnstarted, NothingNew, LeavesBuffer, Undisturbed, AllUndisturbed}
use Rattle.laws_happenings.specs.Asides.{recorder_after, row, is_tick, is_own}
use Rattle.laws_happenings.proofs.Recording.{buffer_left, message_leaves}
use Rattle.laws_happenings.proofs.Panel.{is_ticked_lem, nothing_new}
use Rattle.laws_happenings.proofs.Asides.{leaves}

-- the gate's recorder has this plan, and goes through this history
pub record Follows (p : Plan) (gate : Gate) (g : Recording) : Type 0 where
  pub recorder : gate.recorder ≡ planned p g.run
  pub memory : gate.memory ≡ g.memory
  pub size : length gate.memory ≡ memory_end

module _ (p : Plan) where
  -- what is left; and that the buffer is, where nobody disturbs it
  pub record Followed (quiet : Type 0) (gate : Gate) (g : Recording) (es : List Event) : Type 0 where
    pub follows : Follows p gate (history.after p g es)
    pub leaves : quiet → AllLeaveBuffer p g es

  followed_message : {quiet : Type 0} (gate : Gate) (g : Recording) (m : Message) (ms : List Message) → Follows p gate g → is_start gate m ≡ false
      → Followed quiet (answered gate m).gate g (events_of gate (m ∷ ms))
  followed_message gate g m ms f no_start =
      split (is_stop gate m)
      (λ t.
      let s = stop_stops gate m p g.run f.recorder t in
      rw t
      (record {
        follows = record { recorder = s.0; memory = s.1 ∙ f.memory; size = ap length s.1 ∙ f.size };
        leaves = λ quiet. (tt, tt);
      }))
      (λ n.
      let left = message_leaves gate m in
      let size : length (answered gate m).gate.memory ≡ memory_end = left.0 ∙ f.size in
      let buffer = buffer_left (answered gate m).gate.memory gate.memory left.1 in
      rw n
      (record {
        follows = record { recorder = others_pass gate m p g.run f.recorder no_start n; memory = refl; size = size };
        leaves = λ quiet. ((size, buffer ∙ ap (drop buffer_begin) f.memory), tt);
      }))

  -- what does not tick keeps the buffer, unless the gate's own program writes it
  buffer_kept : (gate : Gate) (a : Aside) → is_tick a ≡ false → LeavesBuffer gate a → drop buffer_begin (beside gate a).memory ≡ drop buffer_begin gate.memory
  buffer_kept gate a still quiet =
      split (is_own a) quiet (λ other. buffer_left (beside gate a).memory gate.memory ((leaves gate a).rest other still))

  module _ (s : Since) (g : Recording) (f : Follows p s.gate g) where
    followed_byte : (b : ℕ) → Unstarted s (byte b) → Followed (Undisturbed s (byte b)) (after s (byte b)).gate g (events_at s (byte b))
    followed_byte b quiet = by (finished_by s.bytes b) refl
      where
        by : (ms : List Message) → finished_by s.bytes b ≡ ms → Followed (Undisturbed s (byte b)) (after s (byte b)).gate g (events_at s (byte b))
        by [] e =
            subst (λ (ms : List Message). Followed (Undisturbed s (byte b)) (after_messages (with_byte s b) ms).gate g (events_of s.gate ms)) (sym e)
            (record { follows = f; leaves = λ undisturbed. tt })
        by (m ∷ ms) e =
            subst (λ (ms : List Message). Followed (Undisturbed s (byte b)) (after_messages (with_byte s b) ms).gate g (events_of s.gate ms)) (sym e)
            (followed_message s.gate g m ms f
            (subst (λ (l : List Message). NoStart s.gate l) e quiet))

    abbrev Beside : Aside → Type 0
    Beside a = Followed (Undisturbed s (aside a)) (beside s.gate a) g (events_beside s.gate a)

    followed_tick : (a : Aside) → is_tick a ≡ true → Beside a
    followed_tick a is =
        let left = leaves s.gate a in
        let recorder : recorder_after (row a).recorder s.gate ≡ ticked s.gate.recorder s.gate.memory = is_ticked_lem (row a).recorder s.gate is in
        rw is
        (record {
          follows =
              record {
                recorder =
                    left.recorder
                    ∙ recorder
                    ∙ ap (λ (r : Recorder). ticked r s.gate.memory) f.recorder
                    ∙ ap (λ (m : List ℕ). planned p (ran_tick p g.run m)) f.memory;
                memory =
                    left.ticked_memory_lem is
                    ∙ ap (λ (r : Recorder). ticked_memory r s.gate.memory) f.recorder
                    ∙ ap (λ (m : List ℕ). memory_after_tick p g.run m) f.memory;
                size = left.size ∙ f.size;
              };
          leaves = λ quiet. (tt, tt);
        })

    -- whatever writes the memory leaves the recorder as it was
    followed_beside : (a : Aside) → NothingNew s.gate a → Beside a
    followed_beside a old =
        split (is_tick a) (followed_tick a)
        (λ still.
        let left = leaves s.gate a in
        let recorder : (beside s.gate a).recorder ≡ planned p g.run = left.recorder ∙ nothing_new (row a).recorder s.gate still old ∙ f.recorder in
        let size : length (beside s.gate a).memory ≡ memory_end = left.size ∙ f.size in
        split (row a).stores
        (λ some.
        rw (still, some)
        (record {
          follows = record { recorder = recorder; memory = refl; size = size };
          leaves = λ quiet. ((size, buffer_kept s.gate a still quiet.1 ∙ ap (drop buffer_begin) f.memory), tt);
        }))
        (λ none.
        rw (still, none)
        (record {
          follows = record { recorder = recorder; memory = left.memory none ∙ f.memory; size = size };
          leaves = λ quiet. tt;
        })))

  -- ---- one after the other
  after_append : (es fs : List Event) (g : Recording) → history.after p g (es ++ fs) ≡ history.after p (history.after p g es) fs
  after_append [] fs g = refl
  after_append (e ∷ es) fs g = after_append es fs (history.stepped p g e)

  leaves_append : (es fs : List Event) (g : Recording) → AllLeaveBuffer p g es → AllLeaveBuffer p (history.after p g es) fs → AllLeaveBuffer p g (es ++ fs)
  leaves_append [] fs g left right = right
  leaves_append (e ∷ es) fs g left right = (left.0, leaves_append es fs (history.stepped p g e) left.1 right)

  followed_append : {first-quiet second-quiet : Type 0} (between last : Gate) (g : Recording) (es fs : List Event) → Followed first-quiet between g es
      → Followed second-quiet last (history.after p g es) fs → Followed (first-quiet × second-quiet) last g (es ++ fs)
  followed_append between last g es fs first second =
      record {
        follows = subst (λ (q : Recording). Follows p last q) (sym (after_append es fs g)) second.follows;
        leaves = λ quiet. leaves_append es fs g (first.leaves quiet.0) (second.leaves quiet.1);
      }

  pub followed_all : (hs : List Happening) (s : Since) (g : Recording) → Follows p s.gate g → AllUnstarted s hs
      → Followed (AllUndisturbed s hs) (after_all s hs).gate g (events s hs)
  followed_all [] s g f quiet = record { follows = f; leaves = λ undisturbed. tt }
  followed_all (byte b ∷ hs) s g f quiet =
      let one = followed_byte s g f b quiet.0 in
      followed_append (after s (byte b)).gate (after_all (after s (byte b)) hs).gate g (events_at s (byte b)) (events (after s (byte b)) hs) one
      (followed_all hs (after s (byte b)) (history.after p g (events_at s (byte b))) one.follows quiet.1)
  followed_all (aside a ∷ hs) s g f quiet =
      let one = followed_beside s g f a quiet.0 in
      followed_append (beside s.gate a) (after_all (after s (aside a)) hs).gate g (events_beside s.gate a) (events (after s (aside a)) hs) one
      (followed_all hs (after s (aside a)) (history.after p g (events_beside s.gate a)) one.follows quiet.1)

-- what nobody disturbs, nobody starts anew
pub unstarted : (hs : List Happening) (s : Since) → AllUndisturbed s hs → AllUnstarted s hs
unstarted [] s quiet = tt
unstarted (byte b ∷ hs) s quiet = (quiet.0, unstarted hs (after s (byte b)) quiet.1)
unstarted (aside a ∷ hs) s quiet = (quiet.0.0, unstarted hs (after s (aside a)) quiet.1)
