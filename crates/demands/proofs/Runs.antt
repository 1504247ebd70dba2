-- What a run since reset comes to, step by step: a board within its bounds that is as the definition has it.
use mathlib.Core.Path.{◌≡◌, sym, ap, subst, ◌∙◌}
use mathlib.Core.List.{List, ◌++◌, append-nil, append_assoc}
use Prim.Native.Nat.{ℕ, ◌<◌, ◌≤◌}
use lib.ListN.{length, get_or, drop}
use Rattle.document.specs.Numbers.{answer_room}
use Rattle.document.specs.Gate.{Gate}
use Rattle.document.specs.Happenings.{Happening, Since, after, after_all}
use Rattle.document.specs.Happenings.Happening.{byte, aside}
use Rattle.state_block.specs.Layout.{decoded}
use Rattle.call_checks.specs.Promises.{block_sound}
use Rattle.call_checks.proofs.Numbers.{byte_known}
use Rattle.laws_happenings.specs.Asides.{handed_by, if_any, row}
use Rattle.laws_happenings.specs.Along.{along}
use Rattle.laws_happenings.specs.Bytes.{IsBytes, AreBytes}
use Rattle.laws_happenings.specs.Applying.{handed_at, handed_out}
use Rattle.laws_happenings.specs.Ports.{modbus_at, modbus_of}
use Rattle.laws_calls.specs.Calls.{Call, length_of}
use Rattle.demands.specs.Board.{Board}
use Rattle.demands.specs.Buffers.{BehindKept}
use Rattle.demands.specs.Pieces.{lends}
use Rattle.demands.specs.Run.{Takes, Step, Singly}
use Rattle.demands.specs.Run.Singly.{ends, happens, refuses}
use Rattle.demands.proofs.Calls.{refused_kept, served, taken_number, said_is, buffer_is, next_is}
use Rattle.demands.proofs.Bytes.{turn_means}
use Rattle.demands.proofs.Reached.{Reached, kept, reached_byte}
use Rattle.demands.proofs.Besides.{becomes, reached_aside, touches}

module _ (h : Board) (s : Since) (r : Reached h s) where
  -- a byte that is taken was lent room for an answer
  pub room_lent : (b : ℕ) (next : Board) (t : Takes (Call.byte b) h next) → answer_room ≤ length t.made.buffer
  room_lent b next t = (byte_known (block_sound (lends h.block t.made.block)) (lends h.memory t.made.memory) t.made.buffer (taken_number (Call.byte b) h next t (kept h s r))).2

  -- of its buffer, what lies behind the answer
  pub byte_behind : (b : ℕ) (next : Board) (t : Takes (Call.byte b) h next)
      → BehindKept answer_room t.made.buffer (length_of t.made.outcome.left) t.made.outcome.left.buffer
  byte_behind b next t =
      let buffer : List ℕ = t.made.buffer in
      let stood = turn_means (decoded h.block) b h.memory buffer (room_lent b next t) s r.stands.gate r.stands.link_part in
      let said = ap (λ (l : List ℕ). get_or l 0 0) (said_is (Call.byte b) h next t (kept h s r)) in
      let told = buffer_is (Call.byte b) h next t (kept h s r) in
      record {
        behind = (λ j. drop (said j) (told j)) ∙ stood.behind ∙ ap (λ (n : ℕ). drop n buffer) (sym said);
        fits = subst (λ (n : ℕ). n ≤ answer_room) (sym said) stood.fits;
      }

  -- the board behind a byte
  byte_next : (b : ℕ) (next : Board) → b < 256 → (t : Takes (Call.byte b) h next) → next ≡ served (Call.byte b) h t.made.buffer
  byte_next b next small t = next_is (Call.byte b) h next t (kept h s r) (λ on. (small, tt))

  -- whatever happens, with whatever lent
  pub reached_step : (e : Happening) (next : Board) → IsBytes e → Step h e next → Reached next (after s e)
  reached_step (byte b) next small step =
      subst (λ (q : Board). Reached q (after s (byte b))) (sym (byte_next b next small step))
      (reached_byte h s r b small step.made.buffer (room_lent b next step))
  reached_step (aside a) next are step = reached_aside h s r a next (becomes h s r a next are step)

  -- what is handed out, and what the second port answers
  commands_step : (e : Happening) (next : Board) → IsBytes e → Step h e next → next.commands ≡ h.commands ++ handed_at s e
  commands_step (byte b) next small step = ap (λ (q : Board). q.commands) (byte_next b next small step)
  commands_step (aside a) next are step =
      (touches h s r a next (becomes h s r a next are step)).commands
      ∙ ap (λ (q : Gate). h.commands ++ handed_by (row a).command q.application) r.stands.gate

  answers_step : (e : Happening) (next : Board) → IsBytes e → Step h e next → next.modbus_answers ≡ h.modbus_answers ++ modbus_at s e
  answers_step (byte b) next small step = ap (λ (q : Board). q.modbus_answers) (byte_next b next small step)
  answers_step (aside a) next are step =
      (touches h s r a next (becomes h s r a next are step)).modbus_answers
      ∙ ap (λ (q : Gate). h.modbus_answers ++ if_any ((row a).answer q.memory)) r.stands.gate

pub reached_singly : (h last : Board) (hs : List Happening) → Singly h hs last → (s : Since) → AreBytes hs → Reached h s → Reached last (after_all s hs)
reached_singly h last hs (ends _) s are r = r
reached_singly h last hs (happens _ next _ e es step run) s are r =
    reached_singly next last es run (after s e) are.1 (reached_step h s r e next are.0 step)
reached_singly h last hs (refuses _ next _ _ refused run) s are r =
    reached_singly next last hs run s are (subst (λ (q : Board). Reached q s) (sym (refused_kept h next refused)) r)

-- a list that grows with each thing that happens, and stays where a call is refused
module _ (listed : Board → List (List ℕ)) (gives : Since → Happening → List (List ℕ))
    (grows : (h : Board) (s : Since) → Reached h s → (e : Happening) (next : Board) → IsBytes e → Step h e next → listed next ≡ listed h ++ gives s e) where
  run_grows : (h last : Board) (hs : List Happening) → Singly h hs last → (s : Since) → AreBytes hs → Reached h s
      → listed last ≡ listed h ++ along gives s hs
  run_grows h last hs (ends _) s are r = sym (append-nil (listed h))
  run_grows h last hs (happens _ next _ e es step run) s are r =
      run_grows next last es run (after s e) are.1 (reached_step h s r e next are.0 step)
      ∙ ap (λ (l : List (List ℕ)). l ++ along gives (after s e) es) (grows h s r e next are.0 step)
      ∙ append_assoc (listed h) (gives s e) (along gives (after s e) es)
  run_grows h last hs (refuses _ next _ _ refused run) s are r =
      run_grows next last hs run s are (subst (λ (q : Board). Reached q s) (sym (refused_kept h next refused)) r)
      ∙ ap (λ (q : Board). listed q ++ along gives s hs) (refused_kept h next refused)

pub run_hands : (h last : Board) (hs : List Happening) → Singly h hs last → (s : Since) → AreBytes hs → Reached h s
    → last.commands ≡ h.commands ++ handed_out s hs
run_hands = run_grows (λ (q : Board). q.commands) handed_at commands_step

pub run_answers : (h last : Board) (hs : List Happening) → Singly h hs last → (s : Since) → AreBytes hs → Reached h s
    → last.modbus_answers ≡ h.modbus_answers ++ modbus_of s hs
run_answers = run_grows (λ (q : Board). q.modbus_answers) modbus_at answers_step
