-- A byte over a state that stands for the definition leaves one that does: the gate, the link and what goes over the wire.
use mathlib.Core.Path.{◌≡◌, refl, sym, ap, subst, ◌∙◌}
use mathlib.Core.List.{List, [], ◌∷◌, ◌++◌, map, append-nil, foldl-append}
use Prim.Native.Nat.{ℕ, ◌≤◌}
use native.Mathlib.Omega.{arith}
use lib.ListN.{length, take, drop}
use Rattle.document.specs.Numbers.{answer_room}
use Rattle.document.specs.Message.{Message, finished_by}
use Rattle.document.specs.Answer.{Answer, answer_on_wire}
use Rattle.document.specs.Gate.{Gate, Outcome}
use Rattle.document.specs.Commands.{answered}
use Rattle.document.specs.Happenings.{Since}
use Rattle.document.specs.Blocks.{answers_on_wire}
use Rattle.laws_happenings.proofs.Blocks.{answers_to}
use Rattle.line_wire.proofs.Left.{sets_front, sets_behind, answer_fits}
use Rattle.line_receiver.specs.declared.Event.{Event}
use Rattle.line_receiver.specs.declared.Event.TheVariants.{Nothing, Keep, Whole}
use Rattle.line_receiver.specs.Bounds as link
use Rattle.line_receiver.specs.Step.{stepped}
use Rattle.line_receiver.specs.Report.{HeldMessage, held, Beside, body_after, report_of, on_byte, since_reset}
use Rattle.line_receiver.proofs.Reports.{reports}
use Rattle.state_parts.specs.State.{Target, gate_of}
use Rattle.state_byte.specs.AnsweredHeld.{answered_held}
use Rattle.state_byte.proofs.Held.{answered_held_lem}
use Rattle.state_byte.proofs.Fits.{held_formed}
use Rattle.state_byte.proofs.HeldLaws.{held_kept}
use Rattle.state_byte.specs.Turn.{Turn, silent, keeping, held_by, answering, turn}
use Rattle.state_byte.proofs.TurnLaws.{next_of, by_event}
use Rattle.demands.specs.AsDefined.{blank, link_in}

-- what goes over the wire; a length of 0 is no answer
abbrev pub replied : Turn → List ℕ
replied u = take u.length u.buffer

-- ---- lists
map_none : (ms : List Message) → map held ms ≡ [] → ms ≡ []
map_none [] e = refl
map_none (m ∷ ms) e = let z : ◌≡◌ {A = ℕ} 0 1 = cc in absurd (omega arith)

-- ---- answers
abbrev pub gate_after : Gate → List Message → Gate
gate_after g [] = g
gate_after g (m ∷ ms) = (answered g m).gate

-- a turn's state, memory and reply stand for what the definition gives, behind the bytes bs and with this buffer lent
pub record TurnMeans (u : Turn) (buffer : List ℕ) (g : Gate) (bs : List ℕ) (ms : List Message) : Type 0 where
  pub gate : gate_of u.next.instruments u.memory ≡ gate_after g ms
  pub link_part : link_in u.next ≡ since_reset blank bs
  pub answers : replied u ≡ answers_on_wire (answers_to g ms)
  pub behind : drop u.length u.buffer ≡ drop u.length buffer
  pub fits : u.length ≤ answer_room

module _ (t : Target) (b : ℕ) (memory buffer : List ℕ) (room : answer_room ≤ length buffer) (s : Since)
    (stands : gate_of t.instruments memory ≡ s.gate) (linked : link_in t ≡ since_reset blank s.bytes) where
  abbrev grown : List ℕ
  grown = s.bytes ++ (b ∷ [])

  event_reports : report_of (stepped t.receiver b).event t.body ≡ map held (finished_by s.bytes b)
  event_reports =
      ap (λ (q : Beside). report_of (stepped q.receiver b).event q.body) linked
      ∙ reports blank refl s.bytes b

  -- the receiver and the body go on as since reset
  link_next : (e : Event) → (stepped t.receiver b).event ≡ e
      → ◌≡◌ {A = Beside} (record { receiver = (stepped t.receiver b).next; body = body_after e t.body }) (since_reset blank grown)
  link_next e is =
      ap (λ (k : Event). record { receiver = (stepped t.receiver b).next; body = body_after k t.body }) (sym is)
      ∙ ap (λ (q : Beside). on_byte q b) linked
      ∙ sym (foldl-append on_byte (record { receiver = link.fresh; body = blank }) s.bytes (b ∷ []))

  -- a byte that finishes nothing
  quiet : (e : Event) (u : Turn) → (stepped t.receiver b).event ≡ e → report_of e t.body ≡ []
      → turn t b memory buffer ≡ u → TurnMeans u buffer s.gate grown []
      → TurnMeans (turn t b memory buffer) buffer s.gate grown (finished_by s.bytes b)
  quiet e u is none turned silent-stands =
      let nothing : finished_by s.bytes b ≡ [] =
      map_none (finished_by s.bytes b) (sym event_reports ∙ ap (λ (k : Event). report_of k t.body) is ∙ none) in
      subst (λ (q : Turn). TurnMeans q buffer s.gate grown (finished_by s.bytes b)) (sym turned)
      (subst (λ (ms : List Message). TurnMeans u buffer s.gate grown ms) (sym nothing) silent-stands)

  -- a byte that finishes a message
  module _ (c n sum : ℕ) (is : (stepped t.receiver b).event ≡ Whole c n sum) where
    abbrev next : Target
    next = next_of t b memory buffer

    abbrev H : HeldMessage
    H = held_by next c n sum

    told_stands : (m : Message) (ms : List Message) → H ≡ held m
        → TurnMeans (answering next c n sum memory buffer) buffer s.gate grown (m ∷ ms)
    told_stands m ms same =
        let outcome : answered_held (gate_of t.instruments memory) H ≡ answered s.gate m =
        (λ j. answered_held (stands j) (same j)) ∙ answered_held_lem s.gate m in
        let a : Answer = (answered_held (gate_of t.instruments memory) H).answer in
        let short : length (answer_on_wire a) ≤ answer_room = answer_fits a (held_formed (gate_of t.instruments memory) H) in
        let fits : length (answer_on_wire a) ≤ length buffer = omega (arith, room, short) in
        record {
          gate = held_kept t.instruments memory H ∙ ap (λ (o : Outcome). o.gate) outcome;
          link_part = link_next (Whole c n sum) is;
          answers = sets_front (answer_on_wire a) buffer fits ∙ ap (λ (o : Outcome). answer_on_wire o.answer) outcome ∙ sym (append-nil (answer_on_wire (answered s.gate m).answer));
          behind = sets_behind (answer_on_wire a) buffer fits;
          fits = short;
        }

    whole_stands : TurnMeans (turn t b memory buffer) buffer s.gate grown (finished_by s.bytes b)
    whole_stands = by (finished_by s.bytes b) refl
      where
        reported : H ∷ [] ≡ map held (finished_by s.bytes b)
        reported = ap (λ (k : Event). report_of k t.body) (sym is) ∙ event_reports

        by : (ms : List Message) → finished_by s.bytes b ≡ ms → TurnMeans (turn t b memory buffer) buffer s.gate grown (finished_by s.bytes b)
        by [] e =
            let none : H ∷ [] ≡ [] = reported ∙ ap (λ (l : List Message). map held l) e in
            let z : ◌≡◌ {A = ℕ} 0 1 = cc in absurd (omega arith)
        by (m ∷ ms) e =
            let some : H ∷ [] ≡ held m ∷ map held ms = reported ∙ ap (λ (l : List Message). map held l) e in
            let same : H ≡ held m = cc in
            subst (λ (q : Turn). TurnMeans q buffer s.gate grown (finished_by s.bytes b)) (sym (by_event t b memory buffer (Whole c n sum) is))
            (subst (λ (l : List Message). TurnMeans (answering next c n sum memory buffer) buffer s.gate grown l) (sym e) (told_stands m ms same))

  pub turn_means : TurnMeans (turn t b memory buffer) buffer s.gate grown (finished_by s.bytes b)
  turn_means = by (stepped t.receiver b).event refl
    where
      by : (e : Event) → (stepped t.receiver b).event ≡ e → TurnMeans (turn t b memory buffer) buffer s.gate grown (finished_by s.bytes b)
      by Nothing e =
          quiet Nothing (silent (next_of t b memory buffer) memory buffer) e refl (by_event t b memory buffer Nothing e)
          (record { gate = stands; link_part = link_next Nothing e; answers = refl; behind = refl; fits = omega arith })
      by (Keep at v) e =
          quiet (Keep at v) (silent (keeping (next_of t b memory buffer) at v) memory buffer) e refl (by_event t b memory buffer (Keep at v) e)
          (record { gate = stands; link_part = link_next (Keep at v) e; answers = refl; behind = refl; fits = omega arith })
      by (Whole c n sum) e = whole_stands c n sum e
