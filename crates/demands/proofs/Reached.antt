-- A board within its bounds that is as the definition has it: where a run begins, and behind a byte.
use mathlib.Core.Path.{◌≡◌, refl, sym, ap, subst, ◌∙◌}
use mathlib.Core.List.{List, [], ◌∷◌, ◌++◌}
use Prim.Native.Nat.{ℕ, ◌<◌, ◌≤◌}
use native.Mathlib.Omega.{arith}
use borrow.Author.Tests.{le-leb, eq-eqb}
use lib.Dec.{eqb}
use lib.ListN.{length}
use lib.Seq.{sets, length-sets}
use Rattle.document.specs.Bytes.{AllBytes}
use Rattle.document.specs.Numbers.{answer_room, taken}
use Rattle.document.specs.Message.{Message, finished_by}
use Rattle.document.specs.Plan.{Plan}
use Rattle.document.specs.Run.{Run as DocumentRun}
use Rattle.document.specs.Recorder.{Recorder, recorder_absent}
use Rattle.document.specs.Recorder.Recorder.{absent, planned}
use Rattle.document.specs.Tables.{Table}
use Rattle.document.specs.Gate.{registered as gate}
use Rattle.document.specs.Happenings.{Happening, Since, after_messages, after, from_reset as since}
use Rattle.document.specs.Happenings.Happening.{byte, aside}
use Rattle.document.specs.Blocks.{answers_on_wire}
use Rattle.document.proofs.Cases.{split, neither}
use Rattle.recorder_history.specs.History.{PlanFits}
use Rattle.line_receiver.specs.Report.{since_reset}
use Rattle.recorder_plans.proofs.Granted.{sound_fits}
use Rattle.recorder_state.specs.declared.state.Recorder.{Recorder as RecorderState}
use Rattle.recorder_state.proofs.Keeps.{sound_parts}
use Rattle.tables_state.specs.State.{Registered, no_tables, tables_of, registered_list}
use Rattle.state_parts.specs.State.{Target, gate_of}
use Rattle.state_parts.specs.Bounds.{fresh_with}
use Rattle.state_parts.specs.Widths.{TargetFits}
use Rattle.state_parts.specs.Within.{TablesWithin, MemoryWithin, Within}
use Rattle.document.proofs.Bytes.{each_a_byte, all_append}
use Rattle.state_parts.proofs.Keeps.{within_fits, within_registered, no_tables_lem}
use Rattle.state_block.specs.Places.{state_length}
use Rattle.state_block.specs.Layout.{decoded, encoded}
use Rattle.state_block.proofs.Back.{stored_decoded}
use Rattle.call_register.specs.Promises.{register_number}
use Rattle.call_register.proofs.Registered.{taken_good, registered_tables, registered_within}
use Rattle.state_byte.specs.Turn.{Turn, turn}
use Rattle.state_byte.proofs.Keeps.{byte_keeps}
use Rattle.call_byte.proofs.Stores.{target_over}
use Rattle.laws_happenings.specs.Bytes.{with_byte, Bytes, bytes_of, AreBytes}
use Rattle.laws_happenings.proofs.Resync.{told_bytes}
use Rattle.laws_happenings.proofs.Blocks.{wire_append, answers_to, told_answers}
use Rattle.laws_calls.specs.Calls.{Call}
use Rattle.demands.specs.Board.{Board, gate_in, begun}
use Rattle.demands.specs.Run.{Reset}
use Rattle.demands.specs.Run.Reset.{by_reset, by_registering}
use Rattle.demands.specs.AsDefined.{blank, link_in, AsDefined}
use Rattle.demands.proofs.Calls.{served, Kept}
use Rattle.demands.proofs.Bytes.{gate_after, turn_means}

-- after these bytes
pub record Reached (h : Board) (s : Since) : Type 0 where
  pub long : state_length ≤ length h.block
  pub within : Within (decoded h.block) h.memory
  pub stands : AsDefined h s
  pub bytes : AllBytes s.bytes
  -- the block holds nothing but what its state is encoded as
  pub stored : sets h.block 0 (encoded (decoded h.block)) ≡ h.block

pub kept : (h : Board) (s : Since) → Reached h s → Kept h
kept h s r = record { long = r.long; within = r.within; stored = r.stored }

-- what comes over the line is bytes
line_bytes : (hs : List Happening) → AreBytes hs → AllBytes (bytes_of hs)
line_bytes [] are = tt
line_bytes (byte b ∷ hs) are = (are.0, line_bytes hs are.1)
line_bytes (aside a ∷ hs) are = line_bytes hs are.1

-- the bytes since reset, and those that come
pub bytes_on : (h : Board) (s : Since) → Reached h s → (hs : List Happening) → AreBytes hs → Bytes (s.bytes ++ bytes_of hs)
bytes_on h s r hs are = each_a_byte (s.bytes ++ bytes_of hs) (all_append s.bytes (bytes_of hs) r.bytes (line_bytes hs are))

-- ---- a block in which a state was stored

module _ (block : List ℕ) (t : Target) (memory : List ℕ) (long : state_length ≤ length block) (w : Within t memory) where
  fits : TargetFits t
  fits = within_fits t memory w

  pub there : decoded (sets block 0 (encoded t)) ≡ t
  there = stored_decoded block t long fits

  still_long : state_length ≤ length (sets block 0 (encoded t))
  still_long = omega (arith, long, length-sets block 0 (encoded t))

  still_stored : sets (sets block 0 (encoded t)) 0 (encoded (decoded (sets block 0 (encoded t)))) ≡ sets block 0 (encoded t)
  still_stored = ap (λ (k : Target). sets (sets block 0 (encoded t)) 0 (encoded k)) there ∙ target_over block t t long fits fits

  pub reached_stored : (next : Board) (s : Since) → next.block ≡ sets block 0 (encoded t) → next.memory ≡ memory → gate_of t.instruments memory ≡ s.gate
      → link_in t ≡ since_reset blank s.bytes → next.answers ≡ answers_on_wire s.answers → AllBytes s.bytes → Reached next s
  reached_stored next s is left gate-is link answers are =
      let here : decoded next.block ≡ t = ap decoded is ∙ there in
      record {
        long = subst (λ (l : List ℕ). state_length ≤ length l) (sym is) still_long;
        within = subst (λ (m : List ℕ). Within (decoded next.block) m) (sym left) (subst (λ (q : Target). Within q memory) (sym here) w);
        stands =
            record {
              gate = (λ j. gate_of (here j).instruments (left j)) ∙ gate-is;
              answers = answers;
              link_part = ap link_in here ∙ link;
            };
        bytes = are;
        stored = subst (λ (l : List ℕ). sets l 0 (encoded (decoded l)) ≡ l) (sym is) still_stored;
      }

-- ---- a byte

told_gate : (s : Since) (ms : List Message) → (after_messages s ms).gate ≡ gate_after s.gate ms
told_gate s [] = refl
told_gate s (m ∷ ms) = refl

module _ (h : Board) (s : Since) (r : Reached h s) (b : ℕ) (small : b < 256) (buffer : List ℕ) (room : answer_room ≤ length buffer) where
  abbrev u : Turn
  u = turn (decoded h.block) b h.memory buffer

  abbrev grown : Since
  grown = with_byte s b

  pub reached_byte : Reached (served (Call.byte b) h buffer) (after s (byte b))
  reached_byte =
      let stood = turn_means (decoded h.block) b h.memory buffer room s r.stands.gate r.stands.link_part in
      let ms : List Message = finished_by s.bytes b in
      let keeps = byte_keeps (decoded h.block) h.memory buffer r.within b small in
      reached_stored h.block u.next u.memory r.long keeps (served (Call.byte b) h buffer) (after s (byte b)) refl refl
      (stood.gate ∙ sym (told_gate grown ms))
      (stood.link_part ∙ ap (λ (bs : List ℕ). since_reset blank bs) (sym (told_bytes ms grown)))
      ((λ j. r.stands.answers j ++ stood.answers j)
      ∙ sym (wire_append s.answers (answers_to s.gate ms))
      ∙ ap answers_on_wire (sym (told_answers grown ms)))
      (subst AllBytes (sym (told_bytes ms grown)) (all_append s.bytes (b ∷ []) r.bytes (small, tt)))

-- ---- since reset, or since a registering

module _ (block memory : List ℕ) (long : state_length ≤ length block) (good : MemoryWithin memory) where
  -- a block that holds a state at its reset
  reached_fresh : (tables : Registered) (after : List ℕ) → TablesWithin tables → after ≡ sets block 0 (encoded (fresh_with tables))
      → Reached (begun after memory) (since (gate (tables_of tables) memory))
  reached_fresh tables after listed is =
      reached_stored block (fresh_with tables) memory long (within_registered tables memory listed good) (begun after memory) (since (gate (tables_of tables) memory))
      is refl refl refl refl tt

  pub reached_begun : (tables : List Table) (next : List ℕ) → Reset block memory tables next → Reached (begun next memory) (since (gate tables memory))
  reached_begun tables next (by_reset r _ reset) =
      reached_fresh no_tables next no_tables_lem (reset.state ∙ rw (le-leb state_length (length block) long) refl)
  reached_begun tables next (by_registering list _ all done) =
      let known = taken_good block memory list (sym done.number) in
      let fine = eq-eqb (register_number block memory list) taken (sym done.number) in
      subst (λ (ts : List Table). Reached (begun next memory) (since (gate ts memory)))
      (registered_tables memory list known.good)
      (reached_fresh (registered_list list) next (registered_within memory list known.good all) (done.state ∙ rw fine refl))

-- ---- a plan within bounds is one that a setup grants
pub plan_fits : (h : Board) (s : Since) → Reached h s → (p : Plan) (r : DocumentRun) → (gate_in h).recorder ≡ planned p r → PlanFits p
plan_fits h s reached p r has =
    split (eqb state.ready 0)
    (λ none. neither (ap recorder_absent (sym (rw none at has))))
    (λ ready.
    let parts = sound_parts state reached.within.recorder_part.sound ready in
    subst (λ (q : Plan). PlanFits q) (ap (plan_or p) (rw ready at has)) (sound_fits state.plan parts.plan))
  where
    state : RecorderState
    state = (decoded h.block).instruments.recorder

    plan_or : Plan → Recorder → Plan
    plan_or other absent = other
    plan_or other (planned q run) = q
