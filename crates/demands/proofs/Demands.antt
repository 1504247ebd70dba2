-- The three demands and the recorder's history, proved of the calls that are linked into the gate.
--
-- A run is any list of things that happen since reset, each by its call: a byte comes over the port, or a block of them, the gate ticks,
-- its own program collects a command or reports a result, the front panel prepares or starts the recorder, a frame comes over the
-- second port; or the gate's own program writes its memory; and refused calls stand anywhere among them. Of a call only its promise is
-- known (`laws_calls.Promised.Promised` names it), and that promise is the contract that the prover holds the compiled function to. What
-- the calls are compared with is document 01 and the requests as definitions (`document`), never a program.
use mathlib.Core.Path.{◌≡◌, refl, sym, ap, subst, ◌∙◌}
use mathlib.Core.Bool.{Bool, true, false, cond}
use mathlib.Core.List.{List, [], ◌∷◌, ◌++◌}
use Prim.Native.Nat.{ℕ, suc, ◌-◌, ◌*◌, ◌<◌, ◌≤◌}
use lib.Dec.{ltb}
use lib.ListN.{length, drop}
use Rattle.document.specs.Numbers.{most_data, answer_room, taken, done, busy, sum_wrong}
use Rattle.document.specs.Bytes.{AllBytes}
use Rattle.document.specs.Areas.{variables_end}
use Rattle.document.specs.Message.{Message, sum_right, summed, well_formed, on_wire, finished_by}
use Rattle.document.specs.Answer.{Answer}
use Rattle.document.specs.AnswerWriter.{answer_refusal}
use Rattle.document.specs.CommandWriter.{command_refusal}
use Rattle.document.specs.Variables.{address_width}
use Rattle.document.specs.Plan.{Plan}
use Rattle.document.specs.Trigger.{trigger_value}
use Rattle.document.specs.Run.{Run as DocumentRun, started, set_of}
use Rattle.document.specs.Run.Watch.{previous, triggered}
use Rattle.document.specs.Recorder.{recorder_prepared}
use Rattle.document.specs.Recorder.Recorder.{planned}
use Rattle.document.specs.Sets.{sets_taken}
use Rattle.document.specs.Application.{is_pending}
use Rattle.document.specs.Application.Application.{waiting}
use Rattle.document.specs.Tables.{Table}
use Rattle.document.specs.Gate.{Gate, says, registered as gate}
use Rattle.document.specs.Refusals.{refusal}
use Rattle.document.specs.Commands.{answered}
use Rattle.document.specs.Panel.{panel_prepares, panel_starts}
use Rattle.document.specs.Modbus.{modbus_room}
use Rattle.document.specs.Asides.{Aside}
use Rattle.document.specs.Asides.Aside.{tick, reports, prepares, starts, frames}
use Rattle.document.specs.Happenings.{Happening, Since, after as happened, after_all, from_reset as since}
use Rattle.document.specs.Happenings.Happening.{byte, aside}
use Rattle.recorder_history.specs.History.{memories_left, TriggersNext, Unstopped}
use Rattle.recorder_history.specs.Trace.{index_after, RisingWord}
use Rattle.line_wire.specs.declared.Written.{Written}
use Rattle.line_wire.specs.AnswerWritten.{AnswerWritten}
use Rattle.line_receiver.specs.Report.{Beside, since_reset}
use Rattle.line_receiver.specs.Runs.{odd_run}
use Rattle.line_receiver.proofs.Idle.{Idle, finished_idle}
use Rattle.line_commands.specs.CommandWritten.{CommandWritten}
use Rattle.document_outcomes.specs.Starts.{is_start, Begins}
use Rattle.document_outcomes.proofs.Recording.{start_begins}
use Rattle.laws_happenings.specs.Asides.{waiting_in, prepares_anew, starts_anew, row}
use Rattle.laws_happenings.specs.Bytes.{bytes_of, beside_bytes, AreBytes}
use Rattle.laws_happenings.specs.Due.{AllDue}
use Rattle.laws_happenings.specs.Recording.{events, ticks_of, AllUnstarted, AllUndisturbed}
use Rattle.document_outcomes.specs.Sending.{sends, unrefused_so_far}
use Rattle.document_outcomes.proofs.Sending.{while_pending}
use Rattle.laws_happenings.specs.Applying.{sent_of, AllUnreported}
use Rattle.laws_happenings.specs.Ports.{modbus_of, without_frames, found, without_service, shared, calibration_in}
use Rattle.laws_happenings.proofs.Resync.{told_bytes, bytes_after, resync_even, resync_next}
use Rattle.laws_happenings.proofs.Blocks.{block_stops}
use Rattle.laws_happenings.proofs.Tables.{tables_kept_lem}
use Rattle.laws_happenings.proofs.Applying.{between, handed_out_from_reset}
use Rattle.state_parts.specs.Within.{MemoryWithin}
use Rattle.state_block.specs.Places.{state_length}
use Rattle.state_block.specs.Layout.{decoded}
use Rattle.call_checks.specs.Promises.{Checked}
use Rattle.call_reader.specs.declared.calls.ReadByte.{ReadByte}
use Rattle.call_reader.specs.Promises.{BeginDone, ReadDone}
use Rattle.laws_calls.specs.Calls as call
use Rattle.laws_calls.specs.Calls.{Call, Lent, length_of, took_of, wrote_of, Outcome, CallRefused}
use Rattle.laws_calls.specs.Promised.{Promised}
use Rattle.laws_calls.specs.Bounds.{BytesLent, HandedOut}
use Rattle.laws_calls.proofs.Settled as settled
use Rattle.laws_calls.proofs.Settled.{call_refused}
use Rattle.laws_calls.proofs.Bounds.{handed_out_bounded}
use Rattle.laws_calls.proofs.Allowed.{prepare_alike, start_alike}
use Rattle.laws_ends.specs.Refused.{WriteRefused, BeginRefused, ReadRefused}
use Rattle.laws_ends.specs.Readings.{ByRead, Readings, Reads, SixExactly}
use Rattle.laws_ends.specs.Exchange.{Wrote, ReadSince, Expects}
use Rattle.laws_ends.proofs.Refused as both_ends
use Rattle.laws_ends.proofs.Readings as readings
use Rattle.laws_ends.proofs.Exchange.{wrote_wire}
use Rattle.modbus_check_sums.specs.Flips.{Sent}
use Rattle.laws_modbus.specs.Damage.{Damaged}
use Rattle.laws_names.specs.Names.{names_in}
use Rattle.laws_names.specs.Steps.{names_read}
use Rattle.demands.specs.Board.{Board, gate_in, begun}
use Rattle.demands.specs.Run.{Takes, Refuses, Reset, Step, Singly, came, Run, Ready}
use Rattle.demands.specs.Cut.{Cut}
use Rattle.demands.specs.Refused.{CheckRefused, WireRefused}
use Rattle.demands.specs.AsDefined.{blank, AsDefined}
use Rattle.demands.specs.Touches.{Touches}
use Rattle.demands.specs.Buffers.{BehindKept, BlockAsDefined}
use Rattle.demands.specs.Fresh.{AnsweredFresh, NothingByHalf}
use Rattle.demands.specs.Recorded.{Recorded}
use Rattle.demands.specs.Recorder.{Begun, RunsOn, FiresAtFirst, OnlyItsPlace}
use Rattle.demands.specs.Trace.{TraceKept, TraceStays, takes_set, Watches, Indexed, status_answer, query_answer}
use Rattle.demands.specs.Applying.{OnlySaid, TellsResult}
use Rattle.demands.specs.Ports.{OnlyVariables, SinceReset, SameService}
use Rattle.demands.specs.Sums.{SumExactly}
use Rattle.demands.specs.EndToEnd.{EndToEnd}
use Rattle.demands.proofs.Wire as wire
use Rattle.demands.proofs.Calls.{refused_kept, said_is, ready}
use Rattle.demands.proofs.Exists.{takes_all}
use Rattle.demands.proofs.Reached.{Reached, kept, reached_begun, bytes_on, plan_fits}
use Rattle.demands.proofs.Besides.{becomes, touches}
use Rattle.demands.proofs.Runs.{byte_behind, reached_step, run_hands, run_answers}
use Rattle.demands.proofs.RunsExist.{run_there}
use Rattle.demands.proofs.Blocks as blocks
use Rattle.demands.proofs.Blocks.{singly, reached_run}
use Rattle.demands.proofs.Cuts.{cut}
use Rattle.demands.proofs.Fresh.{answered_fresh, by_half}
use Rattle.demands.proofs.Recorded.{recorded}
use Rattle.demands.proofs.Recorder.{start_begun, panel_begun, panel_prepared, tick_touches, run_fires, run_stops}
use Rattle.demands.proofs.Applying.{only_said, sent_waits}
use Rattle.demands.proofs.Trace as trace
use Rattle.demands.proofs.Behind.{modbus_behind, collect_kept}
use Rattle.demands.proofs.Ports.{frame_only}
use Rattle.demands.proofs.Independent.{service_runs, modbus_runs}
use Rattle.demands.proofs.Noise.{noise_unheard}
use Rattle.demands.proofs.EndToEnd.{answer_comes_back}
use Rattle.demands.proofs.Results.{told_result}
use Rattle.demands.proofs.Sums.{finished_exactly}
use Rattle.demands.proofs.Names.{names_come}

-- ---- Demand 1: "The line may bring anything at any moment without a fault. No entry relies on its caller. Each refusal has one
-- number from the document, given exactly when the document says, and changes no byte lent to the call (a refusal sent on the
-- wire writes that answer's bytes only)."
--
-- That a call returns, whatever it is lent, is what the prover shows of each function: no call of the header has a `requires`.

-- of each call that a gate makes: `laws_calls.Calls` has their numbers and what they leave
pub demand_1_call : (l : Lent) (c : Call) (o : Outcome) → Promised l c o → CallRefused c l o
demand_1_call = call_refused

-- "1 a state outside the bounds listed in docs/, which no state handed out ever is": from any block within its bounds, since reset or
-- kept elsewhere and checked
pub demand_1_handed_out : (c : Call) (l : Lent) (o : Outcome) → BytesLent c l → Promised l c o → HandedOut c l o
demand_1_handed_out = handed_out_bounded

-- "show that two outcomes allowed by one promise are equal"
pub one_outcome : (l : Lent) (c : Call) (o k : Outcome) → Promised l c o → Promised l c k → o ≡ k
one_outcome = settled.one_outcome

pub demand_1_check : (block : List ℕ) (r : ℕ) → Checked block r → CheckRefused block r
demand_1_check = wire.check_refused

-- "Bytes of it behind the answer keep their values; without an answer, all do.": and 256 bytes are room for every answer
pub demand_1_modbus_behind : (l : Lent) (station : ℕ) (bytes : List ℕ) (o : Outcome) → Promised l (Call.frame station bytes) o
    → BehindKept modbus_room l.buffer (length_of o.left) o.left.buffer
demand_1_modbus_behind l station bytes o p = modbus_behind l o station bytes p

-- both ends of the line: the answer writer, the command writer, the answer reader
pub demand_1_answer : (a : Answer) (before : List ℕ) (r : Written) (after : List ℕ) → AnswerWritten a before r after
    → WriteRefused (answer_refusal a before) before r after
demand_1_answer = both_ends.answer_refused

pub demand_1_command : (command : ℕ) (body before : List ℕ) (r : Written) (after : List ℕ) → CommandWritten command body before r after
    → WriteRefused (command_refusal command body before) before r after
demand_1_command = both_ends.command_refused

pub demand_1_begin : (block : List ℕ) (expected r : ℕ) (after : List ℕ) → BeginDone block expected r after → BeginRefused block expected r after
demand_1_begin = both_ends.begin_refused

pub demand_1_read : (block : List ℕ) (b : ℕ) (buffer : List ℕ) (r : ReadByte) (after told : List ℕ) → ReadDone block b buffer r after told
    → ReadRefused block b buffer r after told
demand_1_read = both_ends.read_refused

-- on the wire
pub demand_1_wire : (g : Gate) (m : Message) → WireRefused g m
demand_1_wire = wire.wire_refused

-- a refused call along a run consumes nothing: block, memory, answers of both ports and commands are as before
pub demand_1_refused : (h next : Board) → Refuses h next → next ≡ h
demand_1_refused = refused_kept

-- ---- what happens since reset: `first` has happened, and h is the board then

module _ (block memory : List ℕ) (tables : List Table) (after : List ℕ) (long : state_length ≤ length block) (lent : MemoryWithin memory) (reset : Reset block memory tables after)
    (first : List Happening) (h : Board) (are : AreBytes first) (run : Run (begun after memory) first h) where
  -- what the definition has then
  abbrev reached : Since
  reached = after_all (since (gate tables memory)) first

  there : Reached h (after_all (since (gate tables memory)) first)
  there =
      reached_run (begun after memory) h first run (since (gate tables memory)) are
      (reached_begun block memory long lent tables after reset)

  reached_bytes : reached.bytes ≡ bytes_of first
  reached_bytes = bytes_after first (since (gate tables memory))

  -- "1 a state outside the bounds listed in docs/, which no state handed out ever is": after any run every call that is lent all that
  -- the gate has and its room is taken; a report waits for its command
  pub demand_1_run : Ready h
  demand_1_run = ready h there.long there.within

  -- ---- runs exist: what is said of them is said of something

  -- each call that is lent its room can be taken, a whole block of bytes too, with this buffer
  pub run_calls : (c : Call) (buffer : List ℕ) → (call.row c).room ≤ length buffer → (call.row c).due (decoded h.block) h.memory ≡ true
      → (next : Board) × (call : Takes c h next) × (call.made.buffer ≡ buffer)
  run_calls c buffer room due = (_, takes_all c h buffer there.long there.within room due, refl)

  -- and whatever is due can happen, one thing after the other
  pub runs_exist : (hs : List Happening) → AreBytes hs → AllDue (after_all (since (gate tables memory)) first) hs → (last : Board) × Run h hs last
  runs_exist hs = run_there hs h reached there

  -- a byte comes by a call of its own or in a block: a run can be cut at each thing that happens in it, a byte inside a block too, so
  -- all that is said below of a byte that comes by a call of its own is said of every byte
  pub run_cut : (earlier : List Happening) (e : Happening) (later : List Happening) (last : Board) → AreBytes (earlier ++ (e ∷ later))
      → Run h (earlier ++ (e ∷ later)) last → Cut h earlier e later last
  run_cut = cut h reached there

  -- "Bytes of it behind the answer keep their values; without an answer, all do.": of the buffer that this call was lent
  pub demand_1_behind : (b : ℕ) (next : Board) (call : Takes (Call.byte b) h next)
      → BehindKept answer_room call.made.buffer (length_of call.made.outcome.left) call.made.outcome.left.buffer
  demand_1_behind b next call = byte_behind h reached there b next call

  -- ---- Demand 2: "Messages, commands and recorder do exactly what AN2471/D and the MCBCOM manual define, as document 01
  -- sets them out.": after any run the answers, the memory, the scope, the recorder and the application are the definition's

  pub demand_2 : AsDefined h (after_all (since (gate tables memory)) first)
  demand_2 = there.stands

  -- "The gate registers up to 16 tables at reset": as registered they stay, whatever happens (2026-03)
  pub tables_stay : (gate_in h).tables ≡ tables
  tables_stay = ap (λ (g : Gate). g.tables) there.stands.gate ∙ tables_kept_lem first (since (gate tables memory))

  -- what happens beside the line touches what its row says and nothing else: not the link, in the midst of a message or not
  pub aside_touches : (a : Aside) (next : Board) → AllBytes (row a).brings → Step h (aside a) next → Touches a h next
  aside_touches a next are step = touches h reached there a next (becomes h reached there a next are step)

  -- ---- the front panel (2026-06)

  -- "The panel gives 0x09's data part (above 64 bytes 0x83) and gets the same statuses, in 01's order."
  module _ (setup : List ℕ) (next : Board) (step : Step h (aside (prepares setup)) next) where
    pub demand_2_prepare : step.made.outcome.left.said ≡ (panel_prepares (gate_in h) setup).answer.status ∷ []
    demand_2_prepare =
        said_is (Call.prepare setup) h next step (kept h reached there)
        ∙ ap (λ (n : ℕ). n ∷ []) (prepare_alike (decoded h.block).instruments setup [] h.memory)

    -- "A recorder prepared and not started since": of it `document.Panel` has the laws
    pub recorder_prepared_lem : AllBytes setup → prepares_anew (gate_in h) setup ≡ true → (gate_in next).recorder ≡ recorder_prepared false setup
    recorder_prepared_lem all = panel_prepared h next reached there.stands setup (reached_step h reached there (aside (prepares setup)) next all step).stands

  module _ (next : Board) (step : Step h (aside starts) next) where
    pub demand_2_start : step.made.outcome.left.said ≡ (panel_starts (gate_in h)).answer.status ∷ []
    demand_2_start =
        said_is Call.start h next step (kept h reached there)
        ∙ ap (λ (n : ℕ). n ∷ []) (start_alike (decoded h.block).instruments [] h.memory)

    -- "01's sentence on reading round the buffer speaks again from the next start": the premise of the history below
    pub recorder_begun_by_panel : starts_anew (gate_in h) ≡ true → Begun next
    recorder_begun_by_panel = panel_begun h next reached there.stands (reached_step h reached there (aside starts) next tt step).stands

  -- ---- a block at once (2026-05)

  module _ (bytes : List ℕ) (all : AllBytes bytes) (next : Board) (call : Takes (Call.receive bytes) h next) where
    -- "State, memory and answers equal those of giving the same bytes singly.": the bytes that it takes, each given by a call of its
    -- own, come to the same board
    pub block_singly : Singly h (came (took_of call.made.outcome.left) bytes) next
    block_singly = blocks.block_singly h reached there bytes all next call

    -- "It takes bytes while 132 bytes of room are left, and no longer, and reports bytes taken and bytes written.": as the definition
    -- has it, and every byte of the lent buffer is settled
    pub demand_2_block : BlockAsDefined (after_all (since (gate tables memory)) first) bytes call.made.buffer call.made.outcome.left next
    demand_2_block = blocks.block_means h reached there bytes all next call

    -- it takes all of them, unless the room that is left is too short for another answer
    pub block_takes_all : answer_room ≤ length call.made.buffer - wrote_of call.made.outcome.left → took_of call.made.outcome.left ≡ length bytes
    block_takes_all enough =
        let stood = blocks.block_means h reached there bytes all next call in
        stood.taken ∙ block_stops bytes reached (length call.made.buffer) (subst (λ (n : ℕ). answer_room ≤ length call.made.buffer - n) stood.written enough)

  -- ---- Modbus on the second port (2026-07): demands 2 and 3 read the memory as both ports left it, since a frame is one of the things
  -- that happen

  -- after any run its answers are the definition's, each over the memory as it stood at its frame, and silence is none
  pub demand_2_modbus : h.modbus_answers ≡ modbus_of (since (gate tables memory)) first
  demand_2_modbus =
      let start = reached_begun block memory long lent tables after reset in
      run_answers (begun after memory) h first (singly (begun after memory) h first run (since (gate tables memory)) are start) (since (gate tables memory)) are start

  -- a frame changes bytes 0 to 8,191 at most, and nothing of the service port: not the link, in the midst of a message or not
  pub frame_touches : (station : ℕ) (bytes : List ℕ) (next : Board) → Step h (aside (frames station bytes)) next → OnlyVariables station bytes h next
  frame_touches station bytes next step = frame_only station bytes h next (kept h reached there) step

  -- noise there: a right frame in which two bits, any odd number of bits, or any of 16 neighbours are flipped gets silence, and the board
  -- stays as it was, whatever its station and however long it is
  pub modbus_noise : (station : ℕ) (sent got : List ℕ) → Sent sent got → Damaged sent got → (next : Board) → Step h (aside (frames station got)) next → next ≡ h
  modbus_noise station sent got was damaged next step = noise_unheard station got h next (kept h reached there) step sent was damaged

  -- ---- Demand 3: "After any bytes since reset, with an even (or no) run of 0x2B just before, a start byte and a well-formed
  -- stuffed message get exactly the answer, and leave the memory, scope and recorder, that a freshly reset link would give over
  -- these as they stand at the last byte." The application is compared with them (2026-01).

  module _ (hs : List Happening) (before : Board) (b : ℕ) (last : Board) (m : Message) (more : AreBytes hs) (small : b < 256) (formed : well_formed m ≡ true) where
    -- `hs` brings the start byte and the message but for its last byte `b`, and whatever happens beside the bytes; before `b` the
    -- gate is what the latter alone leaves
    pub demand_3_even : odd_run (bytes_of first) ≡ false → on_wire m ≡ bytes_of hs ++ (b ∷ []) → Run h hs before → Step before (byte b) last
        → AnsweredFresh h before last (after_all (after_all (since (gate tables memory)) first) (beside_bytes hs)).gate m
    demand_3_even even sent on step =
        let then = reached_run h before hs on reached more there in
        let end = reached_step before (after_all reached hs) then (byte b) last small step in
        answered_fresh h before last reached hs b m there.stands then.stands end.stands
        (resync_even m reached hs b formed (ap odd_run reached_bytes ∙ even) sent)

  -- "After an odd run, that holds for the next message sent directly behind.": behind a well-formed message, whatever came
  -- before that
  module _ (mid hs : List Happening) (start before : Board) (b : ℕ) (last : Board) (earlier m : Message) (between : AreBytes mid) (more : AreBytes hs) (small : b < 256) (formed-earlier : well_formed earlier ≡ true) (formed : well_formed m ≡ true) where
    pub demand_3_next : on_wire earlier ≡ bytes_of mid → on_wire m ≡ bytes_of hs ++ (b ∷ [])
        → Run h mid start → Run start hs before → Step before (byte b) last
        → AnsweredFresh start before last (after_all (after_all (after_all (since (gate tables memory)) first) mid) (beside_bytes hs)).gate m
    demand_3_next sent-earlier sent to_start on step =
        let now = reached_run h start mid to_start reached between there in
        let then = reached_run start before hs on (after_all reached mid) more now in
        let end = reached_step before (after_all (after_all reached mid) hs) then (byte b) last small step in
        answered_fresh start before last (after_all reached mid) hs b m now.stands then.stands end.stands
        (resync_next earlier m reached mid hs b formed-earlier formed sent-earlier sent)

  -- "A command is never carried out unless its whole message, with a right sum, stands in the bytes since one start byte."
  pub demand_3_half : (b : ℕ) (last : Board) → b < 256 → Step h (byte b) last → NothingByHalf h last (bytes_of first ++ (b ∷ []))
  demand_3_half b last small step =
      let end = reached_step h reached there (byte b) last small step in
      subst (λ (l : List ℕ). NothingByHalf h last (l ++ (b ∷ []))) reached_bytes
      (by_half h last reached b there.stands end.stands (bytes_on h reached there (byte b ∷ []) (small, tt)))

  -- ---- The recorder's history, from one accepted start (which leaves `planned p started`) to the next, or to an accepted preparing,
  -- with commands on the line in between: "So long as nobody else writes the buffer, reading round from it as many places as sets were taken since the
  -- start, at most 'samples', gives the last sets of that history, oldest first."

  module _ (p : Plan) (just : (gate_in h).recorder ≡ planned p started) (hs : List Happening) (last : Board) (more : AreBytes hs) where
    pub recorder_history : AllUndisturbed (after_all (since (gate tables memory)) first) hs → Run h hs last
        → Recorded p last (sets_taken p (memories_left h.memory (events (after_all (since (gate tables memory)) first) hs)))
    recorder_history quiet on =
        let end = reached_run h last hs on reached more there in
        recorded h last reached hs there.stands end.stands there.within.memory_part.size p
        (plan_fits h reached there p started just) just quiet

    -- from that start on, the trigger comes at the first set at or beyond the threshold (2026-02)
    pub recorder_fires : AllUnstarted (after_all (since (gate tables memory)) first) hs → Run h hs last
        → FiresAtFirst p h.memory (events (after_all (since (gate tables memory)) first) hs) last
    recorder_fires quiet on =
        run_fires h last reached there.stands p started just there.within.memory_part.size hs quiet
        (reached_run h last hs on reached more there).stands refl

  -- "A tick changes only that place."
  module _ (p : Plan) (run-now : DocumentRun) (has : (gate_in h).recorder ≡ planned p run-now) where
    pub recorder_ticks : (last : Board) → Step h (aside tick) last → OnlyItsPlace p run-now h last
    recorder_ticks last step =
        tick_touches h last reached there.stands p run-now has (plan_fits h reached there p run-now has) there.within.memory_part.size
        (reached_step h reached there (aside tick) last tt step).stands

    -- "Unless a stop comes sooner, it thus stops post-trigger × (time divider + 1) ticks after the trigger.": the trigger comes at
    -- the next tick, and `hs` is what happens behind it
    pub recorder_stops : TriggersNext p (record { run = run-now; memory = h.memory }) → (hs : List Happening) (last : Board) → AreBytes hs
        → AllUnstarted (happened reached (aside tick)) hs → Unstopped (events (happened reached (aside tick)) hs) → Run h (aside tick ∷ hs) last
        → RunsOn p last (ltb (ticks_of hs) (p.post_trigger * suc p.divider))
    recorder_stops triggers hs last more quiet unstopped on =
        run_stops h last reached there.stands p run-now has there.within.memory_part.size hs (refl, quiet)
        (reached_run h last (aside tick ∷ hs) on reached (tt, more) there).stands
        triggers unstopped

  -- the byte that finishes an accepted start leaves the premise of the history
  pub recorder_begun : (b : ℕ) (last : Board) → b < 256 → Step h (byte b) last → (m : Message) (more : List Message) → finished_by (bytes_of first) b ≡ m ∷ more
      → is_start (gate_in h) m ≡ true → Begun last
  recorder_begun b last small step m more finished start =
      start_begun h last reached there.stands b (reached_step h reached there (byte b) last small step).stands m more
      (ap (λ (l : List ℕ). finished_by l b) reached_bytes ∙ finished) start

  -- ---- the link behind an answer, whatever it says: outside a message, and no 0x2B waits
  pub link_idle : (b : ℕ) (last : Board) → b < 256 → Step h (byte b) last → (m : Message) (more : List Message) → finished_by (bytes_of first) b ≡ m ∷ more
      → Idle (decoded last.block).receiver
  link_idle b last small step m more finished =
      let end = reached_step h reached there (byte b) last small step in
      let link = end.stands.link_part ∙ ap (λ (bs : List ℕ). since_reset blank bs) (told_bytes (finished_by reached.bytes b) _) in
      subst (λ (q : Beside). Idle q.receiver) (sym link)
      (finished_idle blank refl reached.bytes b m more (ap (λ (l : List ℕ). finished_by l b) reached_bytes ∙ finished))

  -- ---- application commands (2026-01)

  -- "the gate's program collects it once": what was handed out, and behind it what waits, are the commands that were sent, in their
  -- order and each as it stood in its message
  pub commands_once : h.commands ++ waiting_in (gate_in h).application ≡ sent_of (since (gate tables memory)) first
  commands_once =
      (λ j. run_hands _ h first (singly _ h first run (since (gate tables memory)) are (reached_begun block memory long lent tables after reset)) (since (gate tables memory)) are (reached_begun block memory long lent tables after reset) j ++ waiting_in (there.stands.gate j).application)
      ∙ sym (handed_out_from_reset first tables memory)

  -- the byte that finishes a message: an accepted 0x10 is pending
  module _ (b : ℕ) (last : Board) (small : b < 256) (step : Step h (byte b) last) (m : Message) (more : List Message)
      (finished : finished_by (bytes_of first) b ≡ m ∷ more) where
    finished_there : finished_by reached.bytes b ≡ m ∷ more
    finished_there = ap (λ (l : List ℕ). finished_by l b) reached_bytes ∙ finished

    end_stands : AsDefined last (happened reached (byte b))
    end_stands = (reached_step h reached there (byte b) last small step).stands

    pub command_sent_lem : sends (gate_in h) m ≡ true → (gate_in last).application ≡ waiting m.body
    command_sent_lem = sent_waits h last reached there.stands b end_stands m more finished_there

    -- "0x10 while one is pending 0x87", "0xFE until the result is in"
    module _ (pending : is_pending (gate_in h).application ≡ true) (so_far : unrefused_so_far m ≡ true) where
      pub command_busy : m.command ≡ 0x10 → OnlySaid (record { status = busy; body = [] }) h last
      command_busy is =
          only_said h last reached there.stands b end_stands m more finished_there busy [] ((while_pending (gate_in h) pending).sent m is so_far)

      pub result_awaited : m.command ≡ 0xC6 → OnlySaid (record { status = done; body = 0xFE ∷ [] }) h last
      result_awaited is =
          only_said h last reached there.stands b end_stands m more finished_there done (0xFE ∷ []) ((while_pending (gate_in h) pending).asked m is so_far)

  -- and it is pending until its result is reported
  pub command_pending : (hs : List Happening) (last : Board) → AreBytes hs → Run h hs last → AllUnreported (after_all (since (gate tables memory)) first) hs
      → is_pending (gate_in h).application ≡ true → is_pending (gate_in last).application ≡ true
  command_pending hs last more on quiet pending =
      ap (λ (g : Gate). is_pending g.application) (reached_run h last hs on reached more there).stands.gate
      ∙ between hs reached (ap (λ (g : Gate). is_pending g.application) (sym there.stands.gate) ∙ pending) quiet

  -- ---- the recorder's trace

  -- an accepted start; then `hs` happens, and `mid` is the board behind it
  module _ (p : Plan) (just : (gate_in h).recorder ≡ planned p started) (hs : List Happening) (mid : Board) (more : AreBytes hs) (on : Run h hs mid) where
    -- when a trace is gone: where the trigger comes at the next tick, and post-trigger is below 'samples', its own set is read among the
    -- last ones after whatever happens, until the recorder is set up or started anew, or the gate's own program writes the buffer
    pub trace_kept : (run-now : DocumentRun) → (gate_in mid).recorder ≡ planned p run-now → TriggersNext p (record { run = run-now; memory = mid.memory })
        → p.post_trigger < p.samples → (fs : List Happening) (last : Board) → AreBytes fs → Run mid (aside tick ∷ fs) last
        → AllUndisturbed reached (hs ++ aside tick ∷ fs)
        → TraceKept p last (length (sets_taken p (memories_left h.memory (events reached (hs ++ aside tick ∷ fs))))) (set_of p mid.memory)
    trace_kept run-now has triggers few fs last later then quiet =
        trace.set_kept h reached there p just hs mid more on fs last later then quiet run-now has triggers few

    module _ (quiet : AllUnstarted reached hs) where
      -- "The start index is 0 until 'samples' sets are taken, then the place that would be written next."
      pub recorder_start_index : Indexed p mid (length (sets_taken p (memories_left h.memory (events reached hs))))
      recorder_start_index = trace.indexed h reached there p just hs mid more on quiet

      -- and the byte that finishes an accepted 0xC4 (0xC9) gets just that
      pub start_index_told : (ex : Bool) (b : ℕ) (last : Board) → b < 256 → Step mid (byte b) last → (m : Message) (rest : List Message)
          → finished_by (bytes_of first ++ bytes_of hs) b ≡ m ∷ rest → m.command ≡ cond ex 0xC9 0xC4 → refusal (gate_in mid) m ≡ done
          → OnlySaid (query_answer (address_width ex) (index_after p.samples (length (sets_taken p (memories_left h.memory (events reached hs)))))) mid last
      start_index_told ex b last small step m rest finished =
          trace.index_told h reached there p just hs mid more on quiet ex b last small step m rest (ap (λ (l : List ℕ). finished_by (l ++ bytes_of hs) b) reached_bytes ∙ finished)

      -- with mode 0 it runs until a stop
      pub recorder_mode_0 : p.trigger.mode ≡ 0 → Unstopped (events reached hs) → RunsOn p mid true
      recorder_mode_0 = trace.mode_0_on h reached there p just hs mid more on quiet

  -- a coil at 0x8000 when the recorder starts, a rising trigger of 2 bytes: the trigger comes at the first set where the sign is 0 and
  -- the threshold not above it; with sign 1 and a threshold that is not below 0 it does not
  module _ (p : Plan) (just : (gate_in h).recorder ≡ planned p started) (reads : trigger_value p.trigger h.memory ≡ 0x8000) (last : Board) (step : Step h (aside tick) last) where
    pub saturated_fires : RisingWord p.trigger 0 → p.trigger.threshold ≤ 0x8000 → Watches p last (triggered p.post_trigger)
    saturated_fires = trace.saturated_comes h reached there p just last step reads

    pub saturated_signed : RisingWord p.trigger 1 → p.trigger.threshold < 0x8000 → Watches p last (previous 0x8000)
    saturated_signed = trace.saturated_waits h reached there p just last step reads

  -- a stopped recorder's trace stays, whatever either port brings
  pub stopped_stays : (p : Plan) (run-now : DocumentRun) → (gate_in h).recorder ≡ planned p run-now → run-now.running ≡ false → (hs : List Happening) (last : Board)
      → AreBytes hs → Run h hs last → AllUndisturbed reached hs → TraceStays h last
  stopped_stays = trace.trace_stays h reached there

  -- a tick that takes no set, since the recorder waits or is stopped or there is none, leaves every byte of the memory
  pub tick_takes_nothing : (last : Board) → Step h (aside tick) last → takes_set (gate_in h).recorder ≡ false → last.memory ≡ h.memory
  tick_takes_nothing = trace.memory_stays h reached there

  -- "A recorder prepared and not started since" (2026-06): it is that after whatever happens
  module _ (setup : List ℕ) (has : (gate_in h).recorder ≡ recorder_prepared false setup) (hs : List Happening) (mid : Board) (more : AreBytes hs) (on : Run h hs mid) (quiet : AllUnstarted reached hs) where
    pub prepared_stays : (gate_in mid).recorder ≡ recorder_prepared false setup
    prepared_stays = trace.prepared_then h reached there setup has hs mid more on quiet

    module _ (b : ℕ) (last : Board) (small : b < 256) (step : Step mid (byte b) last) (m : Message) (rest : List Message)
        (finished : finished_by (bytes_of first ++ bytes_of hs) b ≡ m ∷ rest) (so_far : unrefused_so_far m ≡ true) where
      finished_mid : finished_by (reached.bytes ++ bytes_of hs) b ≡ m ∷ rest
      finished_mid = ap (λ (l : List ℕ). finished_by (l ++ bytes_of hs) b) reached_bytes ∙ finished

      -- it "answers 0x02 to 0xC3 and start index 0 to 0xC4"
      pub prepared_status_lem : m.command ≡ 0xC3 → OnlySaid (status_answer false) mid last
      prepared_status_lem = trace.prepared_stopped h reached there setup has hs mid more on quiet b last small step m rest finished_mid so_far

      pub prepared_index : (ex : Bool) → m.command ≡ cond ex 0xC9 0xC4 → OnlySaid (query_answer (address_width ex) 0) mid last
      prepared_index = trace.prepared_at_0 h reached there setup has hs mid more on quiet b last small step m rest finished_mid so_far

  -- "then the result": from its report on 0xC6 answers it, whatever happens, until another 0x10 is accepted
  module _ (result : ℕ) (reported : Board) (report : Step h (aside (reports result)) reported) (hs : List Happening) (before : Board) (more : AreBytes hs) where
    pub result_told : Run reported hs before → sent_of (happened (after_all (since (gate tables memory)) first) (aside (reports result))) hs ≡ []
        → (b : ℕ) (last : Board) → b < 256 → Step before (byte b) last
        → (m : Message) (others : List Message) → finished_by (bytes_of first ++ bytes_of hs) b ≡ m ∷ others → TellsResult result m before last
    result_told on unsent b last small step m others finished =
        told_result h reached there result reported report hs before more on unsent b last small step m others
        (ap (λ (l : List ℕ). finished_by (l ++ bytes_of hs) b) reached_bytes ∙ finished)

  -- ---- end to end: what the command writer wrote comes over the line, behind any even run of 0x2B and with whatever happens beside it. The
  -- answer over the gate as it stands at the last byte is sent, and the answer reader, to which it comes byte by byte, gives its status and
  -- its data at its last byte, and nothing before. It must expect so many data as come with a success; of an error it gives the status
  -- and no data, whatever it expects
  module _ (command : ℕ) (body : List ℕ) (hs : List Happening) (before : Board) (b : ℕ) (last : Board) (n : ℕ) (more : AreBytes hs) (small : b < 256) where
    pub end_to_end : odd_run (bytes_of first) ≡ false → Wrote command body (bytes_of hs ++ (b ∷ [])) → Run h hs before → Step before (byte b) last
        → Expects n (answered (gate_in before) (summed command body)).answer → EndToEnd n (answered (gate_in before) (summed command body)).answer h last
    end_to_end even written on step =
        let wire = wrote_wire command body (bytes_of hs ++ (b ∷ [])) written in
        answer_comes_back h before last _ (summed command body)
        (demand_3_even hs before b last (summed command body) more small wire.formed even (sym wire.wire) on step) n

  -- 0x82 "Given exactly when .. the sum is not 0 modulo 256", of the byte that finishes a message
  pub sum_exactly : (b : ℕ) (last : Board) → b < 256 → Step h (byte b) last → (m : Message) (more : List Message) → finished_by (bytes_of first) b ≡ m ∷ more
      → SumExactly m h last
  sum_exactly b last small step m more finished =
      finished_exactly h last reached there.stands b (end_stands b last small step m more finished) m more (finished_there b last small step m more finished)

  -- "Names instead of addresses" (2026-03): after any run the steps of source document 000, over the port, find each entry of each table
  -- that was registered, with its name, its type, its address and its info, as the memory then holds them
  pub names_over_port : names_read (gate_in h) ≡ names_in h.memory tables
  names_over_port = names_come block memory tables after reset h reached there tables_stay

-- ---- Two ports, one memory (2026-07): two runs since reset, with the same tables, of which one or both may have traffic on the other port

module _ (tables : List Table) (memory memory' : List ℕ) (hs ks : List Happening) (h k : Board)
    (one : SinceReset tables memory hs h) (other : SinceReset tables memory' ks k) where
  -- "an answer on the service port depends on Modbus traffic only through bytes 0 to 8,191 as commands, ticks and registering found them":
  -- leave the frames out of both and let the same happen; if finished commands and ticks find the same bytes there, one after the
  -- other, then the service port says the same, the gate's own program is handed the same commands, and all is the same but those bytes.
  -- So it is at every moment, since a beginning of a run is one
  pub service_independent : drop variables_end memory ≡ drop variables_end memory' → without_frames hs ≡ without_frames ks
      → found (since (gate tables memory)) hs ≡ found (since (gate tables memory')) ks → SameService h k
  service_independent = service_runs tables memory memory' hs ks h k one other

  -- "a Modbus answer depends on service traffic only through those bytes and the recorder buffer": leave out of both all but the frames
  -- and what the gate's own program writes; if the frames find the same variables and the same buffer, they get the same answers
  pub modbus_independent : calibration_in memory ≡ calibration_in memory' → without_service hs ≡ without_service ks
      → shared (since (gate tables memory)) hs ≡ shared (since (gate tables memory')) ks → h.modbus_answers ≡ k.modbus_answers
  modbus_independent = modbus_runs tables memory memory' hs ks h k one other

-- ".. with a right sum ..": of a message whose sum is wrong the definition carries nothing out, it says 0x82 and leaves the gate
pub demand_3_sum : (g : Gate) (m : Message) → sum_right m ≡ false → answered g m ≡ says g sum_wrong []
demand_3_sum = wire.sum_refused_lem

-- an accepted start, by a setup or by 0xC1, leaves a plan at its start: the premise above
pub recorder_starts : (g : Gate) (m : Message) → is_start g m ≡ true → Begins g m
recorder_starts = start_begins

-- ---- the other end of the cable: since a reading of n data began, whatever calls were made, a byte with room gives what the document
-- says of it behind the bytes taken, and an answer whose sum is wrong leaves the reader idle
pub reader_run : (block : List ℕ) (n r : ℕ) (begun : List ℕ) → BeginDone block n r begun → r ≡ taken → (bs last : List ℕ) → Readings begun bs last
    → (b : ℕ) (next : List ℕ) (call : ByRead last b next) → most_data ≤ length call.buffer → Reads n bs b call.buffer call.result next call.told
reader_run = readings.readings_give

-- "6 a finished answer whose sum is wrong": since a reading began, a call says 6 exactly then
pub reader_sum_exactly : (n : ℕ) (bs last : List ℕ) → ReadSince n bs last → (b : ℕ) (next : List ℕ) (call : ByRead last b next)
    → SixExactly n bs b call.buffer call.result
reader_sum_exactly n bs last since = readings.six_exactly since.lent n since.number since.begun since.promised since.fine bs last since.run

-- ---- "Bytes behind the command, or all when nothing is new, keep their values.": refused or not (2026-01)
pub collect_behind : (l : Lent) (o : Outcome) → Promised l Call.collect o → BehindKept most_data l.buffer (length_of o.left) o.left.buffer
collect_behind = collect_kept
