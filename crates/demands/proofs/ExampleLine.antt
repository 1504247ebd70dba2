-- The premises of what is said of messages, of application commands and of the two ports are met too, by the example's run.
use mathlib.Core.Path.{◌≡◌, refl, ap, ◌∙◌}
use mathlib.Core.Bool.{true}
use mathlib.Core.List.{List, [], ◌∷◌, ◌++◌}
use Prim.Native.Nat.{ℕ}
use native.Mathlib.Omega.{arith}
use lib.ListN.{set, length-set}
use Rattle.document.specs.Numbers.{done, busy, taken}
use Rattle.document.specs.Message.{well_formed, on_wire}
use Rattle.document.specs.Gate.{Gate}
use Rattle.document.specs.Application.{is_pending, is_collected}
use Rattle.document.specs.Asides.Aside.{tick, reports}
use Rattle.document.specs.Happenings.{Happening, after_all}
use Rattle.document.specs.Happenings.Happening.{byte, aside}
use Rattle.state_parts.specs.Within.{MemoryWithin}
use Rattle.document.proofs.Bytes.{all_set}
use Rattle.state_block.specs.Layout.{decoded}
use Rattle.call_checks.proofs.Settled.{reset_done}
use Rattle.laws_calls.specs.Calls.{Call}
use Rattle.laws_calls.specs.Calls as call
use Rattle.laws_happenings.specs.Bytes.{bytes_of, AreBytes, beside_bytes}
use Rattle.laws_happenings.specs.Due.{AllDue}
use Rattle.laws_happenings.specs.Example.{zeros, reset, before, meanwhile, first_set, command, sending, earlier, question, until_report, asking, later, stopping, starting, happened, stale, disturbed, unattended, awaiting, repeating, last_set, pending}
use Rattle.laws_happenings.proofs.Example.{command_even, command_formed, command_wire, command_pending as pending-then, command_unreported, awaiting_finished, awaiting_pending, repeating_finished, repeating_pending, command_unrefused, command_collected, result_unsent, question_finished, question_unrefused, disturbed_bytes, disturbed_due, unattended_bytes, unattended_due, stale_same, disturbed_happened, disturbed_found, stale_calibration, unattended_happened, unattended_shared}
use Rattle.demands.specs.Board.{Board, gate_in, begun}
use Rattle.demands.specs.Run.{Step, Reset, Run}
use Rattle.demands.specs.Run.Reset.{by_reset}
use Rattle.demands.specs.Ports.{SinceReset, SameService}
use Rattle.demands.specs.Fresh.{AnsweredFresh}
use Rattle.demands.specs.Applying.{OnlySaid, TellsResult}
use Rattle.demands.proofs.Joined.{run_behind_lem}
use Rattle.demands.proofs.Demands.{service_independent, modbus_independent, run_calls, runs_exist, demand_3_even, demand_3_next, command_pending, command_busy, result_awaited, result_told}
use Rattle.demands.proofs.Example.{whole, block, begins, long, lent, reset_there, At, to, goes, further, are_next, at_gate, given}

-- what is left behind the first bytes of the command
abbrev behind : List Happening
behind = (byte 0xFF ∷ aside tick ∷ later) ++ stopping ++ starting ++ (byte 0x3F ∷ [])

-- ---- a command behind an even run of 0x2B, a frame in its midst

abbrev quiet : At (before ++ meanwhile ++ starting ++ first_set)
quiet = to (before ++ meanwhile ++ starting ++ first_set) sending behind refl

abbrev pub sent : (mid : Board) × Run quiet.there sending mid
sent = goes (before ++ meanwhile ++ starting ++ first_set) sending behind refl quiet

pub heard : (last : Board) × Step sent.0 (byte 0xFF) last
heard = given (before ++ meanwhile ++ starting ++ first_set ++ sending) (further (before ++ meanwhile ++ starting ++ first_set) sending behind refl quiet) 0xFF

pub even_there : AnsweredFresh quiet.there sent.0 heard.0 (after_all (after_all reset (before ++ meanwhile ++ starting ++ first_set)) (beside_bytes sending)).gate command
even_there =
    demand_3_even block zeros [] begins long lent reset_there (before ++ meanwhile ++ starting ++ first_set) quiet.there quiet.are quiet.run sending sent.0 0xFF heard.0 command
    (are_next (before ++ meanwhile ++ starting ++ first_set) sending behind refl) (omega arith) command_formed command_even command_wire sent.1 heard.1

-- ---- the next one, sent directly behind another

abbrev asked : List Happening
asked = awaiting ++ (byte 0x3A ∷ [])

abbrev rest : List Happening
rest = (byte 0xFF ∷ last_set) ++ (aside (reports 0xFD) ∷ asking) ++ (byte 0x3A ∷ stopping) ++ starting ++ (byte 0x3F ∷ [])

abbrev ticked : At (before ++ earlier ++ (aside tick ∷ []))
ticked = to (before ++ earlier ++ (aside tick ∷ [])) asked (repeating ++ rest) refl

abbrev answered : At (before ++ earlier ++ (aside tick ∷ asked))
answered = further (before ++ earlier ++ (aside tick ∷ [])) asked (repeating ++ rest) refl ticked

abbrev halfway : At (before ++ earlier ++ (aside tick ∷ asked ++ repeating))
halfway = further (before ++ earlier ++ (aside tick ∷ asked)) repeating rest refl answered

abbrev written : (last : Board) × Step halfway.there (byte 0xFF) last
written = given (before ++ earlier ++ (aside tick ∷ asked ++ repeating)) halfway 0xFF

formed : well_formed question ≡ true
unfolding well_formed
formed = refl

on_line : on_wire question ≡ bytes_of asked
unfolding on_wire
on_line = refl

pub next_there : AnsweredFresh answered.there halfway.there written.0
    (after_all (after_all (after_all reset (before ++ earlier ++ (aside tick ∷ []))) asked) (beside_bytes repeating)).gate command
next_there =
    demand_3_next block zeros [] begins long lent reset_there (before ++ earlier ++ (aside tick ∷ [])) ticked.there ticked.are ticked.run asked repeating answered.there halfway.there
    0xFF written.0 question command (are_next (before ++ earlier ++ (aside tick ∷ [])) asked (repeating ++ rest) refl)
    (are_next (before ++ earlier ++ (aside tick ∷ asked)) repeating rest refl) (omega arith) formed command_formed on_line command_wire
    (goes (before ++ earlier ++ (aside tick ∷ [])) asked (repeating ++ rest) refl ticked).1
    (goes (before ++ earlier ++ (aside tick ∷ asked)) repeating rest refl answered).1 written.1

-- ---- an application command: while it is pending its result is awaited, and another one is refused

abbrev waits : At (before ++ earlier ++ (aside tick ∷ awaiting))
waits = to (before ++ earlier ++ (aside tick ∷ awaiting)) (byte 0x3A ∷ []) (repeating ++ rest) refl

pub awaited_there : OnlySaid (record { status = done; body = 0xFE ∷ [] }) waits.there (given (before ++ earlier ++ (aside tick ∷ awaiting)) waits 0x3A).0
awaited_there =
    let last = given (before ++ earlier ++ (aside tick ∷ awaiting)) waits 0x3A in
    result_awaited block zeros [] begins long lent reset_there (before ++ earlier ++ (aside tick ∷ awaiting)) waits.there waits.are waits.run 0x3A last.0
    (omega arith) last.1 question [] awaiting_finished
    (ap (λ (g : Gate). is_pending g.application) (at_gate (before ++ earlier ++ (aside tick ∷ awaiting)) waits) ∙ awaiting_pending) question_unrefused refl

pub busy_there : OnlySaid (record { status = busy; body = [] }) halfway.there written.0
busy_there =
    command_busy block zeros [] begins long lent reset_there (before ++ earlier ++ (aside tick ∷ asked ++ repeating)) halfway.there halfway.are halfway.run 0xFF written.0
    (omega arith) written.1 command [] repeating_finished
    (ap (λ (g : Gate). is_pending g.application) (at_gate (before ++ earlier ++ (aside tick ∷ asked ++ repeating)) halfway) ∙ repeating_pending) command_unrefused refl

-- ---- an application command, pending until its result is reported; and its result

abbrev reporting : List Happening
reporting = (aside (reports 0xFD) ∷ asking) ++ (byte 0x3A ∷ stopping) ++ starting ++ (byte 0x3F ∷ [])

abbrev rise : At (before ++ earlier)
rise = to (before ++ earlier) (aside tick ∷ pending) reporting refl

abbrev collected : At until_report
collected = further (before ++ earlier) (aside tick ∷ pending) reporting refl rise

pub pending_there : is_pending (gate_in collected.there).application ≡ true
pending_there =
    command_pending block zeros [] begins long lent reset_there (before ++ earlier) rise.there rise.are rise.run (aside tick ∷ pending) collected.there
    (are_next (before ++ earlier) (aside tick ∷ pending) reporting refl) (goes (before ++ earlier) (aside tick ∷ pending) reporting refl rise).1
    command_unreported (ap (λ (g : Gate). is_pending g.application) (at_gate (before ++ earlier) rise) ∙ pending-then)

-- 0xC6 behind the report: it is due, since the command was collected
pub due : (call.row (Call.report 0xFD)).due (decoded collected.there.block) collected.there.memory ≡ true
due = ap (λ (g : Gate). is_collected g.application) (at_gate until_report collected) ∙ ap is_collected command_collected

abbrev reported : (next : Board) × Step collected.there (aside (reports 0xFD)) next
reported =
    let call = run_calls block zeros [] begins long lent reset_there until_report collected.there collected.are collected.run (Call.report 0xFD) [] (omega arith) due in
    (call.0, call.1)

abbrev until_reported : List Happening
until_reported = until_report ++ (aside (reports 0xFD) ∷ [])

abbrev behind_report : List Happening
behind_report = (byte 0x3A ∷ stopping) ++ starting ++ (byte 0x3F ∷ [])

abbrev ended : At until_reported
ended =
    record {
      there = reported.0;
      are = (to until_reported asking behind_report refl).are;
      run =
          run_behind_lem (begun begins zeros) collected.there reported.0 until_report (aside (reports 0xFD) ∷ []) collected.run
          (Run.happens collected.there reported.0 reported.0 (aside (reports 0xFD)) [] reported.1 (Run.ends reported.0));
    }

abbrev asks : At (until_reported ++ asking)
asks = further until_reported asking behind_report refl ended

pub result_there : TellsResult 0xFD question asks.there (given (until_reported ++ asking) asks 0x3A).0
result_there =
    let last = given (until_reported ++ asking) asks 0x3A in
    result_told block zeros [] begins long lent reset_there until_report collected.there collected.are collected.run 0xFD reported.0 reported.1 asking asks.there
    (are_next until_reported asking behind_report refl) (goes until_reported asking behind_report refl ended).1 result_unsent 0x3A last.0 (omega arith) last.1 question [] question_finished

-- which is what it says
pub result_said : OnlySaid (record { status = done; body = 0xFD ∷ [] }) asks.there (given (until_reported ++ asking) asks 0x3A).0
result_said = result_there refl question_unrefused

-- ---- two ports: the same with further frames, and without service traffic, over a memory with another byte

abbrev other : List ℕ
other = set zeros 8 1

pub other_lent : MemoryWithin other
other_lent = record { size = length-set zeros 8 1 ∙ lent.size; bytes = all_set zeros 8 1 lent.bytes (omega arith) }

pub reset_other : Reset block other [] begins
reset_other = by_reset taken begins (reset_done block long begins refl)

-- a list of things that are due, since a reset over that memory
module _ (hs : List Happening) (are : AreBytes hs) (due : AllDue stale hs) where
  pub goes_other : (last : Board) × Run (begun begins other) hs last
  goes_other = runs_exist block other [] begins long other_lent reset_other [] (begun begins other) tt (Run.ends (begun begins other)) hs are due

  since_other : SinceReset [] other hs goes_other.0
  since_other = record { block = block; after = begins; long = long; lent = other_lent; reset = reset_other; are = are; run = goes_other.1 }

here : SinceReset [] zeros happened whole.there
here = record { block = block; after = begins; long = long; lent = lent; reset = reset_there; are = whole.are; run = whole.run }

pub service_there : SameService (goes_other disturbed disturbed_bytes disturbed_due).0 whole.there
service_there =
    service_independent [] other zeros disturbed happened (goes_other disturbed disturbed_bytes disturbed_due).0 whole.there (since_other disturbed disturbed_bytes disturbed_due) here
    stale_same.gate.memory disturbed_happened disturbed_found

pub modbus_there : (goes_other unattended unattended_bytes unattended_due).0.modbus_answers ≡ whole.there.modbus_answers
modbus_there =
    modbus_independent [] other zeros unattended happened (goes_other unattended unattended_bytes unattended_due).0 whole.there (since_other unattended unattended_bytes unattended_due) here
    stale_calibration unattended_happened unattended_shared
