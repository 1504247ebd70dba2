-- What happens beside the bytes: the link is untouched, the bounds are kept, and the gate is what the definition makes of it. The one
-- case split over asides at a board; runs and `Touches` take it from here.
use mathlib.Core.Path.{◌≡◌, refl, sym, ap, subst, ◌∙◌}
use mathlib.Core.Bool.{Bool, true, false}
use mathlib.Core.List.{List, [], ◌++◌, append-nil}
use Prim.Native.Nat.{ℕ, ◌≤◌}
use native.Mathlib.Omega.{arith}
use lib.ListN.{length, drop}
use lib.Seq.{sets}
use Rattle.document.specs.Bytes.{AllBytes}
use Rattle.document.specs.Stores.{stored}
use Rattle.document.specs.Areas.{variables_end}
use Rattle.document.specs.Recorder.{ticked as ticks, ticked_memory}
use Rattle.document.specs.Application.{new_command, is_collected, after_collect, after_report}
use Rattle.document.specs.Gate.{Gate}
use Rattle.document.specs.Modbus.{modbus_memory}
use Rattle.document.specs.Asides.{Aside, beside}
use Rattle.document.specs.Asides.Aside.{tick, writes, collects, reports, prepares, starts, frames}
use Rattle.document.specs.Happenings.{Since, after}
use Rattle.document.specs.Happenings.Happening.{aside}
use Rattle.document.proofs.Cases.{neither}
use Rattle.scope_state.specs.State.{scope_of}
use Rattle.recorder_state.specs.declared.state.Recorder.{Recorder as RecorderState}
use Rattle.recorder_state.specs.State.{recorder_of}
use Rattle.recorder_state.specs.Calls.{started_state}
use Rattle.application_state.specs.State.{Command, application_of, collected_command, ended_command}
use Rattle.application_state.proofs.Means.{new_few, collected_means, ended_means}
use Rattle.recorder_taking.specs.Tick.{ticked_state}
use Rattle.recorder_taking.proofs.Ticked.{ticked_means}
use Rattle.tables_state.specs.State.{tables_of}
use Rattle.state_parts.specs.State.{Target, gate_of}
use Rattle.state_parts.specs.Within.{RecorderWithin, CommandWithin, MemoryWithin, Within}
use Rattle.state_parts.proofs.Keeps.{recorder_started_lem, recorder_ticked, command_collected, command_ended, memory_stored, memory_ticked}
use Rattle.state_block.specs.Layout.{decoded, encoded}
use Rattle.call_checks.specs.Promises.{block_sound}
use Rattle.call_checks.proofs.ApplicationNumbers.{collect_known, report_known}
use Rattle.call_modbus.proofs.Answers.{lent-right}
use Rattle.laws_modbus.proofs.Kept.{frame_keeps_length, frame_keeps_bytes}
use Rattle.call_panel.specs.Promises.{given_next}
use Rattle.call_panel.proofs.Kept.{prepare_means, start_means, given_within}
use Rattle.laws_happenings.specs.Asides.{CommandStep, command_after, if_any, handed_by, RecorderStep, recorder_after, row, is_frame}
use Rattle.laws_happenings.specs.Asides.CommandStep.{kept, collected, reported}
use Rattle.laws_happenings.specs.Asides.RecorderStep.{stays, ticked, prepared, started}
use Rattle.laws_happenings.proofs.Asides.{leaves}
use Rattle.laws_calls.specs.Calls.{Call, command_in}
use Rattle.laws_calls.specs.Calls as call
use Rattle.laws_calls.proofs.Bounds.{changed, changed_within}
use Rattle.laws_calls.proofs.Sends.{collect_sends, frame_sends}
use Rattle.demands.specs.Board.{Board, gate_in, behind}
use Rattle.demands.specs.Pieces.{lends}
use Rattle.demands.specs.Run.{wholly, Takes, Step}
use Rattle.demands.specs.AsDefined.{link_in}
use Rattle.demands.specs.Touches.{Touches}
use Rattle.demands.proofs.Calls.{served, taken_number, state_same, next_is}
use Rattle.demands.proofs.Reached.{Reached, kept as kept_of, there, reached_stored}

-- of two steps that differ
abbrev is_stays : RecorderStep → Bool
is_stays stays = true
is_stays ticked = false
is_stays (prepared setup) = false
is_stays started = false

abbrev is_kept : CommandStep → Bool
is_kept kept = true
is_kept collected = false
is_kept (reported result) = false

-- a board behind an aside
pub record Becomes (h : Board) (s : Since) (a : Aside) (next : Board) : Type 0 where
  pub recorder : RecorderState
  pub command : Command
  pub block : next.block ≡ sets h.block 0 (encoded (changed (decoded h.block) recorder command))
  -- within their bounds, they mean what the definition leaves
  pub recorder_within : RecorderWithin recorder
  pub command_within : CommandWithin command
  pub memory_within : MemoryWithin next.memory
  pub recorder_means : recorder_of recorder ≡ recorder_after (row a).recorder s.gate
  pub command_means : application_of command ≡ command_after (row a).command s.gate.application
  pub memory_means : next.memory ≡ (beside s.gate a).memory
  -- what its row leaves alone stays
  pub recorder_stays : (row a).recorder ≡ stays → recorder ≡ (decoded h.block).instruments.recorder
  pub command_kept_lem : (row a).command ≡ kept → command ≡ (decoded h.block).instruments.application
  -- what goes out
  pub answers : next.answers ≡ h.answers
  pub commands : next.commands ≡ h.commands ++ handed_by (row a).command (gate_in h).application
  pub modbus_answers : next.modbus_answers ≡ h.modbus_answers ++ if_any ((row a).answer h.memory)

module _ (h : Board) (s : Since) (r : Reached h s) where
  abbrev now : Target
  now = decoded h.block

  -- the board behind a taken call that brings bytes
  next_of : (c : Call) (next : Board) (t : Takes c h next) → AllBytes (call.row c).brings → next ≡ served c h t.made.buffer
  next_of c next t are = next_is c h next t (kept_of h s r) (λ on. are)

  -- a report that is taken had its command, and its result is one
  pub report_taken : (result : ℕ) (next : Board) → Takes (Call.report result) h next → (result ≤ 0xFD) × (is_collected (command_in (decoded h.block)) ≡ true)
  report_taken result next t =
      let block : List ℕ = lends h.block t.made.block in
      let known = report_known (block_sound block) (command_in (decoded block)) result (taken_number (Call.report result) h next t (kept_of h s r)) in
      (known.1, ap (λ (q : Target). is_collected (command_in q)) (sym (state_same (Call.report result) h next t (kept_of h s r) refl)) ∙ known.2)

  -- the parts of the board are those of the gate
  recorder_is : recorder_of (decoded h.block).instruments.recorder ≡ s.gate.recorder
  recorder_is = ap (λ (g : Gate). g.recorder) r.stands.gate

  command_is : application_of (decoded h.block).instruments.application ≡ s.gate.application
  command_is = ap (λ (g : Gate). g.application) r.stands.gate

  memory_is : h.memory ≡ s.gate.memory
  memory_is = ap (λ (g : Gate). g.memory) r.stands.gate

  -- another memory, and an answer of the second port or none
  becomes_memory : (a : Aside) (next : Board) → (row a).recorder ≡ stays → (row a).command ≡ kept → next.block ≡ h.block → MemoryWithin next.memory
      → next.memory ≡ (beside s.gate a).memory → next.answers ≡ h.answers → next.commands ≡ h.commands
      → next.modbus_answers ≡ h.modbus_answers ++ if_any ((row a).answer h.memory) → Becomes h s a next
  becomes_memory a next still free block within means answers commands modbus =
      record {
        recorder = now.instruments.recorder;
        command = now.instruments.application;
        block = block ∙ sym r.stored;
        recorder_within = r.within.recorder_part;
        command_within = r.within.application_part;
        memory_within = within;
        recorder_means = recorder_is ∙ ap (λ (o : RecorderStep). recorder_after o s.gate) (sym still);
        command_means = command_is ∙ ap (λ (o : CommandStep). command_after o s.gate.application) (sym free);
        memory_means = means;
        recorder_stays = λ is. refl;
        command_kept_lem = λ is. refl;
        answers = answers;
        commands = commands ∙ sym (append-nil h.commands) ∙ ap (λ (o : CommandStep). h.commands ++ handed_by o (gate_in h).application) (sym free);
        modbus_answers = modbus;
      }

  -- another recorder or application command: the memory stays, and the second port says nothing
  becomes_state : (a : Aside) (next : Board) (recorder : RecorderState) (command : Command) → (row a).stores ≡ false → is_frame a ≡ false
      → next ≡ behind h (sets h.block 0 (encoded (changed (decoded h.block) recorder command))) h.memory (record { answers = []; commands = handed_by (row a).command (gate_in h).application; modbus_answers = [] })
      → RecorderWithin recorder → CommandWithin command → recorder_of recorder ≡ recorder_after (row a).recorder s.gate
      → application_of command ≡ command_after (row a).command s.gate.application
      → ((row a).recorder ≡ stays → recorder ≡ (decoded h.block).instruments.recorder)
      → ((row a).command ≡ kept → command ≡ (decoded h.block).instruments.application) → Becomes h s a next
  becomes_state a next recorder command none quiet is recorder_within command_within recorder_means command_means still free =
      record {
        recorder = recorder;
        command = command;
        block = ap (λ (q : Board). q.block) is;
        recorder_within = recorder_within;
        command_within = command_within;
        memory_within = subst MemoryWithin (sym (ap (λ (q : Board). q.memory) is)) r.within.memory_part;
        recorder_means = recorder_means;
        command_means = command_means;
        memory_means = ap (λ (q : Board). q.memory) is ∙ memory_is ∙ sym ((leaves s.gate a).memory none);
        recorder_stays = still;
        command_kept_lem = free;
        answers = ap (λ (q : Board). q.answers) is ∙ append-nil h.answers;
        commands = ap (λ (q : Board). q.commands) is;
        modbus_answers =
            ap (λ (q : Board). q.modbus_answers) is
            ∙ ap (λ (l : List ℕ). h.modbus_answers ++ if_any l) (sym ((leaves s.gate a).silent quiet h.memory));
      }

  pub becomes : (a : Aside) (next : Board) → AllBytes (row a).brings → Step h (aside a) next → Becomes h s a next
  unfolding beside
  becomes tick next are step =
      let is = next_of Call.tick next step tt in
      record {
        recorder = ticked_state now.instruments.recorder h.memory;
        command = now.instruments.application;
        block = ap (λ (q : Board). q.block) is;
        recorder_within = recorder_ticked now.instruments.recorder h.memory r.within.recorder_part r.within.memory_part;
        command_within = r.within.application_part;
        memory_within =
            subst MemoryWithin (sym (ap (λ (q : Board). q.memory) is))
            (memory_ticked (recorder_of now.instruments.recorder) h.memory r.within.memory_part);
        recorder_means = ticked_means now.instruments.recorder h.memory ∙ ap (λ (g : Gate). ticks g.recorder g.memory) r.stands.gate;
        command_means = command_is;
        memory_means = ap (λ (q : Board). q.memory) is ∙ ap (λ (g : Gate). ticked_memory g.recorder g.memory) r.stands.gate;
        recorder_stays = λ never. neither (ap is_stays never);
        command_kept_lem = λ same. refl;
        answers = ap (λ (q : Board). q.answers) is ∙ append-nil h.answers;
        commands = ap (λ (q : Board). q.commands) is;
        modbus_answers = ap (λ (q : Board). q.modbus_answers) is;
      }
  becomes (writes address bytes) next are is =
      becomes_memory (writes address bytes) next refl refl (ap (λ (q : Board). q.block) is)
      (subst MemoryWithin (sym (ap (λ (q : Board). q.memory) is)) (memory_stored h.memory address bytes r.within.memory_part are))
      (ap (λ (q : Board). q.memory) is ∙ ap (λ (l : List ℕ). stored l address bytes) memory_is)
      (ap (λ (q : Board). q.answers) is) (ap (λ (q : Board). q.commands) is)
      (ap (λ (q : Board). q.modbus_answers) is ∙ sym (append-nil h.modbus_answers))
  becomes collects next are step =
      let known = collect_known (block_sound (lends h.block step.made.block)) step.made.buffer (taken_number Call.collect h next step (kept_of h s r)) in
      let c : Command = now.instruments.application in
      let fits : length (new_command (application_of c)) ≤ length step.made.buffer =
      omega (arith, new_few c, r.within.application_part.size, known.1) in
      becomes_state collects next now.instruments.recorder (collected_command c) refl refl
      (next_of Call.collect next step tt
      ∙ ap (behind h (sets h.block 0 (encoded (changed now now.instruments.recorder (collected_command c)))) h.memory) (collect_sends (wholly h step.made.buffer) fits))
      r.within.recorder_part (command_collected c r.within.application_part) recorder_is
      (collected_means c ∙ ap after_collect command_is) (λ same. refl) (λ never. neither (ap is_kept never))
  becomes (reports result) next are step =
      let known = report_taken result next step in
      let c : Command = now.instruments.application in
      becomes_state (reports result) next now.instruments.recorder (ended_command result c) refl refl (next_of (Call.report result) next step are)
      r.within.recorder_part (command_ended c result r.within.application_part known.0) recorder_is
      (ended_means c result known.1 ∙ ap (after_report result) command_is) (λ same. refl) (λ never. neither (ap is_kept never))
  becomes (prepares setup) next are step =
      let k : RecorderState = now.instruments.recorder in
      becomes_state (prepares setup) next (given_next k setup) now.instruments.application refl refl (next_of (Call.prepare setup) next step are)
      (given_within k setup are r.within.recorder_part) r.within.application_part
      (sym (ap (λ (g : Gate). g.recorder) (prepare_means s.gate k (sym recorder_is) setup))) command_is (λ never. neither (ap is_stays never)) (λ same. refl)
  becomes starts next are step =
      let k : RecorderState = now.instruments.recorder in
      becomes_state starts next (started_state k) now.instruments.application refl refl (next_of Call.start next step tt)
      (recorder_started_lem k r.within.recorder_part) r.within.application_part
      (sym (ap (λ (g : Gate). g.recorder) (start_means s.gate k (sym recorder_is)))) command_is (λ never. neither (ap is_stays never)) (λ same. refl)
  becomes (frames station bytes) next are step =
      let room = (lent-right station (lends h.memory step.made.memory) step.made.buffer (taken_number (Call.frame station bytes) h next step (kept_of h s r))).room in
      let m = r.within.memory_part in
      let is =
      next_of (Call.frame station bytes) next step are
      ∙ ap (behind h h.block (modbus_memory station bytes h.memory)) (frame_sends (wholly h step.made.buffer) station bytes room) in
      becomes_memory (frames station bytes) next refl refl (ap (λ (q : Board). q.block) is)
      (subst MemoryWithin (sym (ap (λ (q : Board). q.memory) is))
      (record { size = frame_keeps_length station bytes h.memory ∙ m.size; bytes = frame_keeps_bytes station bytes h.memory are m.bytes }))
      (ap (λ (q : Board). q.memory) is ∙ ap (modbus_memory station bytes) memory_is)
      (ap (λ (q : Board). q.answers) is ∙ append-nil h.answers) (ap (λ (q : Board). q.commands) is ∙ append-nil h.commands)
      (ap (λ (q : Board). q.modbus_answers) is)

  -- ---- what follows for all of them

  module _ (a : Aside) (next : Board) (b : Becomes h s a next) where
    abbrev t : Target
    t = changed (decoded h.block) b.recorder b.command

    within : Within (changed (decoded h.block) b.recorder b.command) next.memory
    within = changed_within (decoded h.block) h.memory next.memory b.recorder b.command r.within b.recorder_within b.command_within b.memory_within

    gate_after_lem : gate_of (changed (decoded h.block) b.recorder b.command).instruments next.memory ≡ beside s.gate a
    gate_after_lem =
        let left = leaves s.gate a in
        let scope : scope_of now.instruments.scope ≡ (beside s.gate a).scope = ap (λ (g : Gate). g.scope) r.stands.gate ∙ sym left.scope in
        let tables : tables_of now.instruments.tables ≡ (beside s.gate a).tables = ap (λ (g : Gate). g.tables) r.stands.gate ∙ sym left.tables in
        let recorder : recorder_of b.recorder ≡ (beside s.gate a).recorder = b.recorder_means ∙ sym left.recorder in
        let command : application_of b.command ≡ (beside s.gate a).application = b.command_means ∙ sym left.application in
        λ j. record { memory = b.memory_means j; scope = scope j; recorder = recorder j; application = command j; tables = tables j }

    pub reached_aside : Reached next (after s (aside a))
    reached_aside =
        reached_stored h.block t next.memory r.long within next (after s (aside a)) b.block refl gate_after_lem r.stands.link_part
        (b.answers ∙ r.stands.answers) r.bytes

    pub touches : Touches a h next
    touches =
        let here : decoded next.block ≡ t = ap decoded b.block ∙ there h.block t next.memory r.long within in
        let left = leaves s.gate a in
        record {
          link_part = ap link_in here;
          scope = ap (λ (q : Target). q.instruments.scope) here;
          tables = ap (λ (q : Target). q.instruments.tables) here;
          answers = b.answers;
          recorder = λ still. ap (λ (q : Target). q.instruments.recorder) here ∙ b.recorder_stays still;
          application = λ free. ap (λ (q : Target). q.instruments.application) here ∙ b.command_kept_lem free;
          memory = λ none. b.memory_means ∙ left.memory none ∙ sym memory_is;
          rest = λ other quiet. ap (drop variables_end) b.memory_means ∙ left.rest other quiet ∙ ap (drop variables_end) (sym memory_is);
          commands = b.commands;
          modbus_answers = b.modbus_answers;
        }
