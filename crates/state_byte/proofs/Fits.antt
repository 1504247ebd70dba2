-- Every answer fits the room for one.
use mathlib.Core.Path.{◌≡◌, refl, sym, ap, subst, ◌∙◌}
use mathlib.Core.Bool.{true}
use mathlib.Core.List.{List}
use Prim.Native.Nat.{ℕ, ◌≤◌}
use native.Mathlib.Omega.{arith}
use lib.Dec.{eqb, ltb}
use lib.ListN.{length}
use lib.Seq.{length-sets}
use Rattle.document.specs.Numbers.{most_data, answer_room, sum_wrong, message_too_long}
use Rattle.document.specs.Answer.{answer_on_wire}
use Rattle.document.specs.AnswerWriter.{answer_formed}
use Rattle.document.specs.Services.{service_of}
use Rattle.document.specs.Gate.{Gate}
use Rattle.document.proofs.Cases.{split}
use Rattle.line_wire.proofs.Left.{answer_fits}
use Rattle.line_receiver.specs.declared.Event.{Event}
use Rattle.line_receiver.specs.declared.Event.TheVariants.{Nothing, Keep, Whole}
use Rattle.line_receiver.specs.Step.{stepped}
use Rattle.line_receiver.specs.Report.{HeldMessage}
use Rattle.document_outcomes.proofs.Served.{alone_formed, served_formed}
use Rattle.state_parts.specs.State.{Target, gate_of}
use Rattle.state_byte.specs.AnsweredHeld.{answered_held}
use Rattle.state_byte.specs.Turn.{Turn, held_by, turn}
use Rattle.state_byte.proofs.TurnLaws.{next_of, by_event}

pub held_formed : (g : Gate) (h : HeldMessage) → answer_formed (answered_held g h).answer ≡ true
unfolding answered_held
held_formed g h =
    split (eqb h.sum 0)
    (λ right. split (ltb most_data h.length)
    (λ long. rw (right, long) (alone_formed message_too_long refl))
    (λ short. rw (right, short) (served_formed g (service_of h.command) h.kept)))
    (λ wrong. rw wrong (alone_formed sum_wrong refl))

pub turn_fits : (t : Target) (b : ℕ) (memory buffer : List ℕ) → (turn t b memory buffer).length ≤ answer_room
turn_fits t b memory buffer = by (stepped t.receiver b).event refl
  where
    by : (e : Event) → (stepped t.receiver b).event ≡ e → (turn t b memory buffer).length ≤ answer_room
    by Nothing e = subst (λ (u : Turn). u.length ≤ answer_room) (sym (by_event t b memory buffer Nothing e)) (omega arith)
    by (Keep at v) e = subst (λ (u : Turn). u.length ≤ answer_room) (sym (by_event t b memory buffer (Keep at v) e)) (omega arith)
    by (Whole c n sum) e =
        let h : HeldMessage = held_by (next_of t b memory buffer) c n sum in
        subst (λ (u : Turn). u.length ≤ answer_room) (sym (by_event t b memory buffer (Whole c n sum) e))
        (answer_fits (answered_held (gate_of t.instruments memory) h).answer (held_formed (gate_of t.instruments memory) h))

-- the lent buffer keeps its length
pub turn_size : (t : Target) (b : ℕ) (memory buffer : List ℕ) → length (turn t b memory buffer).buffer ≡ length buffer
turn_size t b memory buffer = by (stepped t.receiver b).event refl
  where
    by : (e : Event) → (stepped t.receiver b).event ≡ e → length (turn t b memory buffer).buffer ≡ length buffer
    by Nothing e = ap (λ (u : Turn). length u.buffer) (by_event t b memory buffer Nothing e)
    by (Keep at v) e = ap (λ (u : Turn). length u.buffer) (by_event t b memory buffer (Keep at v) e)
    by (Whole c n sum) e =
        let h : HeldMessage = held_by (next_of t b memory buffer) c n sum in
        ap (λ (u : Turn). length u.buffer) (by_event t b memory buffer (Whole c n sum) e)
        ∙ length-sets buffer 0 (answer_on_wire (answered_held (gate_of t.instruments memory) h).answer)
