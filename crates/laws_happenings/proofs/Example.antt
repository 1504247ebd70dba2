-- Runs exist: what happens in the example meets all that the laws ask for, and comes to this. Each fact is a computation, so a definition that
-- is narrowed is refused by it.
use mathlib.Core.Path.{◌≡◌, refl}
use mathlib.Core.Bool.{Bool, true, false, ◌&&◌}
use mathlib.Core.List.{List, [], ◌∷◌, ◌++◌}
use Prim.Native.Nat.{ℕ}
use native.Mathlib.Omega.{arith}
use borrow.Author.Tests.{ltb-true}
use lib.Dec.{ltb}
use Rattle.document.specs.Numbers.{done, recorder_runs, recorder_stopped, busy}
use Rattle.document.specs.Areas.{buffer_begin, bytes_at}
use Rattle.document.specs.Bytes.{AllBytes}
use Rattle.document.specs.Message.{well_formed, on_wire, heard, finished_by}
use Rattle.document.specs.Stores.{stored}
use Rattle.document.specs.Services.{service_of}
use Rattle.document.specs.Plan.{plan_in}
use Rattle.document.specs.Trigger.{fires, is_beyond}
use Rattle.document.specs.Run.{started, ran_tick, memory_after_tick}
use Rattle.document.specs.Run.Watch.{triggered}
use Rattle.document.specs.Recorder.Recorder.{planned}
use Rattle.document.specs.Sets.{sets_taken}
use Rattle.document.specs.Application.Application.{waiting, collected, ended}
use Rattle.document.specs.Permission.{may_be_written}
use Rattle.document.specs.Refusals.{refusal}
use Rattle.document.specs.Commands.{answered}
use Rattle.document.specs.Panel.{panel_prepares, panel_starts}
use Rattle.document.specs.CheckSum.{shifted, shifts, stepped, check_sum}
use Rattle.document.specs.Frames.{is_silenced}
use Rattle.document.specs.Modbus.{exception_to, modbus_answer, modbus_memory}
use Rattle.document.specs.Asides.{beside}
use Rattle.document.specs.Asides.Aside.{tick, reports, prepares}
use Rattle.document.specs.Happenings.{Happening, Since, after, after_all}
use Rattle.document.specs.Happenings.Happening.{byte, aside}
use Rattle.document.proofs.Cases.{neither, both}
use Rattle.document.proofs.Rows.{lists_eq}
use Rattle.line_receiver.specs.Runs.{odd_run}
use Rattle.memory_ranges.proofs.Stored.{drop_sets}
use Rattle.recorder_history.specs.History.{memories_left, NoneBeyond, TriggersNext, Unstopped}
use Rattle.recorder_history.specs.History as history
use Rattle.document_outcomes.specs.Starts.{is_start}
use Rattle.document_outcomes.specs.Sending.{sends, unrefused_so_far}
use Rattle.laws_happenings.specs.Asides.{prepares_anew, starts_anew}
use Rattle.laws_happenings.specs.Bytes.{bytes_of, AreBytes}
use Rattle.laws_happenings.specs.Due.{AllDue}
use Rattle.laws_happenings.specs.Recording.{events, ticks_of, AllUnstarted, AllUndisturbed}
use Rattle.laws_happenings.specs.Applying.{sent_of, handed_out, Pending, AllUnreported}
use Rattle.laws_happenings.specs.Ports.{modbus_of, without_frames, found, SameService, without_service, shared, calibration_in}
use Rattle.laws_happenings.specs.Example.{zeros, reset, setup, plan, before, begun, meanwhile, start, starting, first_set, command, rising, sending, earlier, risen, one_taken, question, awaiting, repeating, pending, until_report, asking, later, since, happened, stale, raised, lowered, disturbed, unattended}
use Rattle.laws_happenings.proofs.Follows.{unstarted}
use Rattle.laws_happenings.proofs.Due.{carried, carried_bytes}

-- what a computation looks through
unfoldable pub computed : Since → List Happening → Since
unfolding heard finished_by service_of plan_in fires is_beyond ran_tick memory_after_tick may_be_written refusal answered panel_prepares panel_starts shifted shifts stepped check_sum is_silenced exception_to modbus_answer modbus_memory beside
computed = after_all

-- of one thing that happens, and of those behind it; below there is a line for each part of the example
infixr 4 ◌and◌
◌and◌ : {A B : Type 0} → A → B → A × B
a and b = (a, b)

-- ---- all that comes is bytes

abbrev pub all_small : List ℕ → Bool
all_small [] = true
all_small (b ∷ bs) = ltb b 256 && all_small bs

abbrev are_small : List Happening → Bool
are_small [] = true
are_small (h ∷ hs) = all_small (carried h) && are_small hs

pub all_small_lem : (bs : List ℕ) → all_small bs ≡ true → AllBytes bs
all_small_lem [] small = tt
all_small_lem (b ∷ bs) small = let t = both (ltb b 256) (all_small bs) small in (ltb-true b 256 t.0, all_small_lem bs t.1)

are_small_lem : (hs : List Happening) → are_small hs ≡ true → AreBytes hs
are_small_lem [] small = tt
are_small_lem (h ∷ hs) small =
    let t = both (all_small (carried h)) (are_small hs) small in (carried_bytes h (all_small_lem (carried h) t.0), are_small_lem hs t.1)

pub happened_bytes : AreBytes happened
happened_bytes = are_small_lem happened refl

pub disturbed_bytes : AreBytes disturbed
disturbed_bytes = are_small_lem disturbed refl

pub unattended_bytes : AreBytes unattended
unattended_bytes = are_small_lem unattended refl

-- ---- and each thing can happen when it does

pub happened_due : AllDue reset happened
unfolding computed
happened_due =
    refl and refl
    and refl and refl and refl and refl and refl
    and tt and tt and refl and tt and refl
    and tt and tt and tt and tt and refl and tt
    and refl
    and tt and refl and tt and tt and tt and tt and tt and tt and tt
    and tt and tt and tt and tt and tt and tt and tt and refl and refl
    and refl and refl and tt and refl and tt and tt
    and refl and tt and tt and tt
    and tt and tt and tt
    and tt

pub disturbed_due : AllDue stale disturbed
unfolding computed
disturbed_due =
    refl and refl and refl
    and refl and refl and refl and refl and refl
    and tt and tt and refl and refl and tt and refl
    and tt and tt and tt and tt and refl and tt
    and refl and refl
    and tt and refl and tt and tt and tt and tt and tt and tt and tt
    and tt and tt and tt and tt and tt and tt and tt and refl and refl
    and refl and refl and refl and refl and tt and refl and tt and tt
    and refl and tt and tt and tt
    and tt and tt and tt
    and tt

pub unattended_due : AllDue stale unattended
unfolding computed
unattended_due = refl and refl and refl and refl and tt

-- ---- the recorder

-- the panel's preparing is accepted
pub panel_prepares_lem : prepares_anew reset.gate setup ≡ true
panel_prepares_lem = refl

-- its start starts the recorder anew
pub panel_starts_lem : starts_anew (after reset (aside (prepares setup))).gate ≡ true
unfolding computed
panel_starts_lem = refl

-- from which on the history speaks
pub begun_recorder : begun.gate.recorder ≡ planned plan started
unfolding computed
begun_recorder = refl

-- nothing that happens since starts the recorder anew or writes its buffer
pub since_undisturbed : AllUndisturbed begun since
unfolding computed
since_undisturbed =
    (refl, λ own. drop_sets (0xFF ∷ []) zeros 8 buffer_begin (omega arith))
    and (refl, λ own. drop_sets (1 ∷ []) (stored zeros 8 (0xFF ∷ [])) 12287 buffer_begin (omega arith))
    and (refl, neither) and (refl, neither) and (refl, neither)
    and tt and tt and (refl, neither) and refl and (refl, neither)
    and tt and tt and tt and tt and (refl, neither) and refl
    and (refl, neither)
    and tt and (refl, neither) and tt and refl and tt and tt and tt and tt and refl
    and tt and tt and tt and tt and tt and tt and refl and (refl, neither) and (refl, neither)
    and (refl, neither) and (refl, neither) and tt and (refl, neither) and tt and refl
    and (refl, neither) and tt and tt and refl
    and tt

pub since_unstarted : AllUnstarted begun since
since_unstarted = unstarted since begun since_undisturbed

-- its history, and the places that hold the last two sets of it
pub since_sets : sets_taken plan (memories_left begun.gate.memory (events begun since)) ≡ (0 ∷ []) ∷ (7 ∷ []) ∷ (9 ∷ []) ∷ []
unfolding computed sets_taken
since_sets = refl

pub since_buffer : bytes_at (after_all begun since).gate.memory buffer_begin 3 ≡ 9 ∷ 7 ∷ 0 ∷ []
unfolding computed
since_buffer = refl

-- one set is taken, and it is below the threshold
pub earlier_unstarted : AllUnstarted begun earlier
unfolding computed
earlier_unstarted =
    refl and refl and refl and refl and refl
    and tt and tt and refl and refl and refl
    and tt and tt and tt and tt and refl and refl
    and tt

pub earlier_below : NoneBeyond plan (history.begun begun.gate.memory) (events begun earlier)
unfolding computed
earlier_below = (λ takes. refl) and tt

pub risen_recorder : risen.gate.recorder ≡ planned plan one_taken
unfolding computed
risen_recorder = refl

-- the next is not
pub risen_triggers : TriggersNext plan (record { run = one_taken; memory = risen.gate.memory })
unfolding computed
risen_triggers = record { running = refl; due = refl; comes_now = refl }

-- behind it no start and no stop, and as many ticks as the further set takes and one
pub later_unstarted : AllUnstarted (after risen (aside tick)) later
unfolding computed
later_unstarted =
    tt and refl and tt and refl and tt and tt and tt and tt and refl
    and tt and tt and tt and tt and tt and tt and refl and refl and refl
    and refl and refl and tt and refl and tt and refl
    and tt

pub later_unstopped : Unstopped (events (after risen (aside tick)) later)
unfolding computed
later_unstopped = tt

pub later_ticks : ticks_of later ≡ 2
later_ticks = refl

-- it has stopped
pub later_recorder : (after_all (after risen (aside tick)) later).gate.recorder
    ≡ planned plan (record { running = false; wait = 0; place = 1; full = true; watch = triggered 0 })
unfolding computed
later_recorder = refl

-- the byte that finishes an accepted start
pub start_finished : finished_by (bytes_of (before ++ since ++ starting)) 0x3F ≡ start ∷ []
unfolding computed
start_finished = refl

pub start_starts : is_start (after_all reset (before ++ since ++ starting)).gate start ≡ true
unfolding computed
start_starts = refl

pub happened_recorder : (after_all reset happened).gate.recorder ≡ planned plan started
unfolding computed
happened_recorder = refl

-- ---- messages: two well-formed ones, of which the one is sent directly behind the other

pub start_formed : well_formed start ≡ true
unfolding well_formed
start_formed = refl

pub start_wire : on_wire start ≡ bytes_of (starting ++ first_set)
unfolding on_wire
start_wire = refl

pub command_formed : well_formed command ≡ true
unfolding well_formed
command_formed = refl

pub command_wire : on_wire command ≡ bytes_of sending ++ (0xFF ∷ [])
unfolding on_wire
command_wire = refl

-- and behind an even run of 0x2B
pub command_even : odd_run (bytes_of (before ++ meanwhile ++ starting ++ first_set)) ≡ false
unfolding odd_run
command_even = refl

pub command_finished : finished_by (bytes_of (before ++ meanwhile ++ starting ++ first_set ++ sending)) 0xFF ≡ command ∷ []
unfolding computed
command_finished = refl

-- what is said to 0xC1, 0x10, 0xC6, 0x10, 0xE3, 0xC6, 0xC2 and 0xC1
pub happened_answers : (after_all reset happened).answers
    ≡ record { status = recorder_runs; body = [] }
    ∷ record { status = done; body = [] }
    ∷ record { status = done; body = 0xFE ∷ [] }
    ∷ record { status = busy; body = [] }
    ∷ record { status = done; body = [] }
    ∷ record { status = done; body = 0xFD ∷ [] }
    ∷ record { status = recorder_stopped; body = [] }
    ∷ record { status = done; body = [] }
    ∷ []
unfolding computed
happened_answers = refl

-- ---- the application command

-- it is accepted
pub command_sends : sends (after_all reset (before ++ meanwhile ++ starting ++ first_set ++ sending)).gate command ≡ true
unfolding computed
command_sends = refl

pub command_waits : risen.gate.application ≡ waiting (0xF0 ∷ [])
unfolding computed
command_waits = refl

-- pending, until its result is reported
pub command_pending : Pending risen
unfolding computed
command_pending = refl

pub command_unreported : AllUnreported risen (aside tick ∷ pending)
unfolding computed
command_unreported =
    tt
    and tt and tt and tt and tt and tt and tt and tt and tt and tt
    and tt and tt and tt and tt and tt and tt and tt and tt and tt
    and tt

-- in between 0xC6 asks for its result, and another 0x10 comes too soon
pub awaiting_finished : finished_by (bytes_of (before ++ earlier ++ (aside tick ∷ awaiting))) 0x3A ≡ question ∷ []
unfolding computed
awaiting_finished = refl

pub awaiting_pending : Pending (after_all reset (before ++ earlier ++ (aside tick ∷ awaiting)))
unfolding computed
awaiting_pending = refl

pub repeating_finished : finished_by (bytes_of (before ++ earlier ++ (aside tick ∷ awaiting) ++ (byte 0x3A ∷ repeating))) 0xFF ≡ command ∷ []
unfolding computed
repeating_finished = refl

pub repeating_pending : Pending (after_all reset (before ++ earlier ++ (aside tick ∷ awaiting) ++ (byte 0x3A ∷ repeating)))
unfolding computed
repeating_pending = refl

pub command_unrefused : unrefused_so_far command ≡ true
command_unrefused = refl

pub question_unrefused : unrefused_so_far question ≡ true
question_unrefused = refl

pub command_collected : (after_all reset until_report).gate.application ≡ collected
unfolding computed
command_collected = refl

-- behind the report no other is sent, and 0xC6 asks for the result
pub result_unsent : sent_of (after (after_all reset until_report) (aside (reports 0xFD))) asking ≡ []
unfolding computed
result_unsent = refl

pub question_finished : finished_by (bytes_of until_report ++ bytes_of asking) 0x3A ≡ question ∷ []
unfolding computed
question_finished = refl

pub happened_application : (after_all reset happened).gate.application ≡ ended 0xFD
unfolding computed
happened_application = refl

-- one was sent, and one handed out
pub happened_sent : sent_of reset happened ≡ (0xF0 ∷ []) ∷ []
unfolding computed
happened_sent = refl

pub happened_handed : handed_out reset happened ≡ (0xF0 ∷ []) ∷ []
unfolding computed
happened_handed = refl

-- ---- two ports, one memory

-- the controller is answered once, and this is what both ports and the gate's own program wrote
pub happened_modbus : modbus_of reset happened ≡ rising ∷ []
unfolding computed
happened_modbus = refl

pub happened_variables : bytes_at (after_all reset happened).gate.memory 0 10 ≡ 9 ∷ 0 ∷ 0 ∷ 0 ∷ 0 ∷ 0 ∷ 0 ∷ 0 ∷ 0xFF ∷ 0 ∷ []
unfolding computed
happened_variables = refl

-- two that begin with different variables
pub stale_same : SameService stale reset
stale_same = record { bytes = refl; answers = refl; gate = record { memory = refl; scope = refl; recorder = refl; application = refl; tables = refl } }

-- further frames, each of them carried out; but for frames the same happened, and the same was found
pub disturbed_modbus : modbus_of stale disturbed ≡ raised ∷ lowered ∷ rising ∷ raised ∷ lowered ∷ []
unfolding computed
disturbed_modbus = refl

pub disturbed_happened : without_frames disturbed ≡ without_frames happened
disturbed_happened = refl

pub disturbed_found : found stale disturbed ≡ found reset happened
unfolding computed
disturbed_found = lists_eq (found stale disturbed) (found reset happened) refl

-- no service traffic; but for it the same happened, and the frames found the same
pub stale_calibration : calibration_in stale.gate.memory ≡ calibration_in zeros
stale_calibration = refl

pub unattended_happened : without_service unattended ≡ without_service happened
unattended_happened = refl

pub unattended_shared : shared stale unattended ≡ shared reset happened
unfolding computed
unattended_shared = refl
