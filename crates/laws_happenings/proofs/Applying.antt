-- Application commands (2026-01) over what happens to a gate: each is handed out at most once, in order, as it stood in its message.
use mathlib.Core.Path.{◌≡◌, refl, sym, ap, ◌∙◌}
use mathlib.Core.Bool.{true, false, not}
use mathlib.Core.List.{List, [], ◌∷◌, ◌++◌, append_assoc, append-nil, append-eq-nil_iff}
use Prim.Native.Nat.{ℕ}
use native.Mathlib.Omega.{arith}
use borrow.Author.Tests.{not-true}
use lib.Dec.{eqb, ltb}
use lib.ListN.{length}
use Rattle.document.specs.Numbers.{most_data, done}
use Rattle.document.specs.Message.{Message, sum_right, finished_by}
use Rattle.document.specs.Services.{service_of}
use Rattle.document.specs.Application.{Application, is_pending, is_collected, result_byte, after_collect, after_report}
use Rattle.document.specs.Application.Application.{none, waiting, collected, ended}
use Rattle.document.specs.Tables.{Table}
use Rattle.document.specs.Gate.{Gate, says, registered}
use Rattle.document.specs.Commands.{served, answered}
use Rattle.document.specs.Happenings.{Happening, Since, after_messages, after, after_all, from_reset}
use Rattle.document.specs.Happenings.Happening.{byte, aside}
use Rattle.document.proofs.Cases.{split, neither, both}
use Rattle.laws_happenings.specs.Asides.{CommandStep, command_after, if_any, waiting_in, handed_by, NoResultBy, row}
use Rattle.laws_happenings.specs.Asides.CommandStep.{kept, collected as collects, reported as reports}
use Rattle.document_outcomes.specs.Sending.{sends, unrefused_so_far}
use Rattle.document_outcomes.proofs.Answered.{answered_served}
use Rattle.document_outcomes.proofs.Sending.{application_after, free_to_send, sent_accepted, pending_kept}
use Rattle.laws_happenings.specs.Bytes.{with_byte}
use Rattle.laws_happenings.specs.Applying.{sent_by, sent_at, sent_of, waiting_at, handed_at, handed_out, Pending, Unreported, AllUnreported}
use Rattle.laws_happenings.proofs.Asides.{leaves}

-- ---- one after the other: what waited or is sent is what is handed out or waits

waits_once : (a : Application) → waiting_in (after_collect a) ≡ []
waits_once none = refl
waits_once (waiting command) = refl
waits_once collected = refl
waits_once (ended result) = refl

reported_waits : (result : ℕ) (a : Application) → waiting_in (after_report result a) ≡ waiting_in a
reported_waits result none = refl
reported_waits result (waiting command) = refl
reported_waits result collected = refl
reported_waits result (ended before) = refl

free_waits : (a : Application) → is_pending a ≡ false → waiting_in a ≡ []
free_waits none free = refl
free_waits (waiting command) free = neither (sym free)
free_waits collected free = neither (sym free)
free_waits (ended result) free = refl

some_any : (body : List ℕ) → eqb (length body) 0 ≡ false → if_any body ≡ body ∷ []
some_any [] some = neither (sym some)
some_any (code ∷ arguments) some = refl

message_hands : (g : Gate) (m : Message) (ms : List Message) → waiting_in g.application ++ sent_by g (m ∷ ms) ≡ waiting_in (answered g m).gate.application
message_hands g m ms =
    split (sends g m)
    (λ send.
    let t = free_to_send g m.body (sent_accepted g m send) in
    let waits : waiting_in (answered g m).gate.application ≡ m.body ∷ [] =
    ap waiting_in (application_after g m) ∙ rw send (some_any m.body t.1) in
    rw (send, free_waits g.application t.0) (sym waits))
    (λ other.
    let same : waiting_in (answered g m).gate.application ≡ waiting_in g.application =
    ap waiting_in (application_after g m) ∙ rw other refl in
    rw other (append-nil (waiting_in g.application) ∙ sym same))

step_hands : (o : CommandStep) (a : Application) → waiting_in a ++ [] ≡ handed_by o a ++ waiting_in (command_after o a)
step_hands kept a = append-nil (waiting_in a)
step_hands collects a = ap (λ (l : List (List ℕ)). waiting_in a ++ l) (sym (waits_once a))
step_hands (reports result) a = append-nil (waiting_in a) ∙ sym (reported_waits result a)

happening_hands : (s : Since) (h : Happening) → waiting_at s ++ sent_at s h ≡ handed_at s h ++ waiting_at (after s h)
happening_hands s (byte b) = by (finished_by s.bytes b)
  where
    by : (ms : List Message)
        → waiting_at s ++ sent_by s.gate ms ≡ waiting_at (after_messages (with_byte s b) ms)
    by [] = append-nil (waiting_at s)
    by (m ∷ ms) = message_hands s.gate m ms
happening_hands s (aside a) =
    step_hands (row a).command s.gate.application
    ∙ ap (λ (q : Application). handed_at s (aside a) ++ waiting_in q) (sym (leaves s.gate a).application)

-- "collects it once": each is handed out at most once, in the order in which they were sent
pub handed_out_once : (hs : List Happening) (s : Since) → waiting_at s ++ sent_of s hs ≡ handed_out s hs ++ waiting_at (after_all s hs)
handed_out_once [] s = append-nil (waiting_at s)
handed_out_once (h ∷ hs) s =
    sym (append_assoc (waiting_at s) (sent_at s h) (sent_of (after s h) hs))
    ∙ ap (λ (l : List (List ℕ)). l ++ sent_of (after s h) hs) (happening_hands s h)
    ∙ append_assoc (handed_at s h) (waiting_at (after s h)) (sent_of (after s h) hs)
    ∙ ap (λ (l : List (List ℕ)). handed_at s h ++ l) (handed_out_once hs (after s h))
    ∙ sym (append_assoc (handed_at s h) (handed_out (after s h) hs) (waiting_at (after_all (after s h) hs)))

pub handed_out_from_reset : (hs : List Happening) (tables : List Table) (memory : List ℕ)
    → sent_of (from_reset (registered tables memory)) hs
    ≡ handed_out (from_reset (registered tables memory)) hs ++ waiting_at (after_all (from_reset (registered tables memory)) hs)
handed_out_from_reset hs tables memory = handed_out_once hs (from_reset (registered tables memory))

-- ---- from its acceptance until its result is reported

collect_pending : (a : Application) → is_pending a ≡ true → is_pending (after_collect a) ≡ true
collect_pending none pending = pending
collect_pending (waiting command) pending = refl
collect_pending collected pending = refl
collect_pending (ended result) pending = pending

uncollected_pending : (result : ℕ) (a : Application) → is_collected a ≡ false → is_pending a ≡ true → is_pending (after_report result a) ≡ true
uncollected_pending result none not_yet pending = pending
uncollected_pending result (waiting command) not_yet pending = refl
uncollected_pending result collected not_yet pending = neither (sym not_yet)
uncollected_pending result (ended before) not_yet pending = pending

step_pending : (o : CommandStep) (a : Application) → NoResultBy o a → is_pending a ≡ true → is_pending (command_after o a) ≡ true
step_pending kept a quiet pending = pending
step_pending collects a quiet pending = collect_pending a pending
step_pending (reports result) a quiet pending = uncollected_pending result a quiet pending

stays_pending : (s : Since) (h : Happening) → Unreported s h → Pending s → Pending (after s h)
stays_pending s (byte b) quiet pending = by (finished_by s.bytes b)
  where
    by : (ms : List Message) → Pending (after_messages (with_byte s b) ms)
    by [] = pending
    by (m ∷ ms) = ap is_pending (pending_kept s.gate m pending) ∙ pending
stays_pending s (aside a) quiet pending =
    ap is_pending (leaves s.gate a).application ∙ step_pending (row a).command s.gate.application quiet pending

pub between : (hs : List Happening) (s : Since) → Pending s → AllUnreported s hs → Pending (after_all s hs)
between [] s pending quiet = pending
between (h ∷ hs) s pending quiet = between hs (after s h) (stays_pending s h quiet.0 pending) quiet.1

-- ---- a result that is in is told until the next command is sent

step_ended : (o : CommandStep) (result : ℕ) → command_after o (ended result) ≡ ended result
step_ended kept result = refl
step_ended collects result = refl
step_ended (reports later) result = refl

message_ended : (g : Gate) (m : Message) (ms : List Message) → sent_by g (m ∷ ms) ≡ [] → (answered g m).gate.application ≡ g.application
message_ended g m ms unsent =
    split (sends g m)
    (λ send. let z : ⊥ = omega (arith, ap length (rw send at unsent)) in absurd z)
    (λ other. application_after g m ∙ rw other refl)

stays_ended : (s : Since) (h : Happening) (result : ℕ) → sent_at s h ≡ [] → s.gate.application ≡ ended result → (after s h).gate.application ≡ ended result
stays_ended s (byte b) result unsent is = by (finished_by s.bytes b) unsent
  where
    by : (ms : List Message) → sent_by s.gate ms ≡ [] → (after_messages (with_byte s b) ms).gate.application ≡ ended result
    by [] unsent = is
    by (m ∷ ms) unsent = message_ended s.gate m ms unsent ∙ is
stays_ended s (aside a) result unsent is =
    (leaves s.gate a).application ∙ ap (command_after (row a).command) is ∙ step_ended (row a).command result

pub result_kept : (hs : List Happening) (s : Since) (result : ℕ) → sent_of s hs ≡ [] → s.gate.application ≡ ended result
    → (after_all s hs).gate.application ≡ ended result
result_kept [] s result unsent is = is
result_kept (h ∷ hs) s result unsent is =
    let each = append-eq-nil_iff.0 unsent in
    result_kept hs (after s h) result each.1 (stays_ended s h result each.0 is)

-- "0xC6 returns one byte"
pub result_asked : (g : Gate) (m : Message) → m.command ≡ 0xC6 → unrefused_so_far m ≡ true → answered g m ≡ says g done (result_byte g.application ∷ [])
unfolding service_of served
result_asked g m is so_far =
    let first = both (sum_right m) (not (ltb most_data (length m.body))) so_far in
    answered_served g m first.0 (not-true (ltb most_data (length m.body)) first.1) ∙ ap (λ (c : ℕ). served g (service_of c) m.body) is
