-- A call along a run: refused, it leaves the board as it was; taken, whatever pieces it was lent, it leaves what the table of calls says
-- over all that the gate has; and when it is taken.
use mathlib.Core.Path.{◌≡◌, refl, sym, ap, subst, ◌∙◌}
use mathlib.Core.Bool.{true, cond}
use mathlib.Core.List.{List, append-nil}
use Prim.Native.Nat.{ℕ, ◌≤◌}
use native.Mathlib.Omega.{arith}
use borrow.Author.Tests.{eq-eqb, le-leb}
use lib.ListN.{length, take}
use lib.Seq.{sets}
use Rattle.document.specs.Areas.{memory_end}
use Rattle.document.specs.Bytes.{AllBytes}
use Rattle.document.specs.Numbers.{taken}
use Rattle.document.proofs.Cases.{split}
use Rattle.line_wire.proofs.Left.{sets_front}
use Rattle.state_parts.specs.State.{Target}
use Rattle.state_parts.specs.Within.{Within}
use Rattle.state_parts.proofs.Keeps.{within_sound, within_fits}
use Rattle.state_block.specs.Places.{state_length}
use Rattle.state_block.specs.Layout.{decoded, encoded}
use Rattle.state_block.proofs.Back.{encoded_length, stored_decoded}
use Rattle.call_checks.proofs.Settled.{long_decides}
use Rattle.laws_calls.specs.Calls.{Call, Lent, Left, Sent, Found, Done, found_by, done_by, row, number_of, leaves, sends, kept}
use Rattle.laws_calls.proofs.Settled.{taken_leaves, call_refused}
use Rattle.laws_calls.proofs.Known.{known}
use Rattle.laws_calls.proofs.Bounds.{lengths, does_within}
use Rattle.demands.specs.Board.{Board, behind}
use Rattle.demands.specs.Pieces.{Piece, lends, handed_back}
use Rattle.demands.specs.Run.{wholly, Makes, Takes, partly, Refuses, Ready}
use Rattle.demands.proofs.Pieces.{lent_back, stored_back, front_lent, wholly_lent, wholly_back}

-- ---- the board behind what is left of the pieces

module _ (c : Call) (h next : Board) (r : Makes c h next) where
  abbrev lent : Lent
  lent = partly h r.block r.memory r.buffer

  abbrev back : Left → Sent → Board
  back x sent = behind h (handed_back h.block r.block x.block) (handed_back h.memory r.memory x.memory) sent

  kept_back : (r.outcome.number ≡ taken → ⊥) → next ≡ h
  kept_back refused =
      let stays : Left = kept c lent in
      r.board
      ∙ ap (λ (x : Left). back x (sends c x)) ((call_refused lent c r.outcome r.promised).unchanged refused)
      ∙ ap (back stays) (known c lent).none_sent
      ∙ (λ j.
      record {
        block = lent_back h.block r.block j;
        memory = lent_back h.memory r.memory j;
        answers = append-nil h.answers j;
        commands = append-nil h.commands j;
        modbus_answers = append-nil h.modbus_answers j;
      })

-- ---- refused

pub refused_kept : (h next : Board) → Refuses h next → next ≡ h
refused_kept h next r = kept_back r.call h next r.made r.refused

-- ---- taken

abbrev pub served : Call → Board → List ℕ → Board
served c h buffer =
    behind h (leaves c (wholly h buffer)).block (leaves c (wholly h buffer)).memory (sends c (leaves c (wholly h buffer)))

-- the board is within its bounds, and its block holds nothing but what its state is encoded as
pub record Kept (h : Board) : Type 0 where
  pub long : state_length ≤ length h.block
  pub within : Within (decoded h.block) h.memory
  pub stored : sets h.block 0 (encoded (decoded h.block)) ≡ h.block

-- so long a piece of its block holds the same state
module _ (h : Board) (k : Kept h) (p : Piece) (long : state_length ≤ length (lends h.block p)) where
  piece_state : decoded (lends h.block p) ≡ decoded h.block
  piece_state =
      let t : Target = decoded h.block in
      let fits = within_fits t h.memory k.within in
      let size : length (encoded t) ≡ state_length = encoded_length t fits in
      let front : take (length (encoded t)) h.block ≡ encoded t =
      ap (take (length (encoded t))) (sym k.stored) ∙ sets_front (encoded t) h.block (omega (arith, size, k.long)) in
      ap decoded (sym (front_lent h.block p (encoded t) front (omega (arith, size, long)))) ∙ stored_decoded (lends h.block p) t long fits

module _ (c : Call) (h next : Board) (t : Takes c h next) (k : Kept h) where
  abbrev l : Lent
  l = lent c h next t.made

  abbrev all : Lent
  all = wholly h t.made.buffer

  pub taken_number : number_of c (lent c h next t.made) ≡ taken
  taken_number = sym (call_refused l c t.made.outcome t.made.promised).number ∙ t.fine

  memory_same : (row c).on_memory ≡ true → lends h.memory t.made.memory ≡ h.memory
  memory_same on = wholly_lent h.memory t.made.memory ((lengths l c taken_number).memory on ∙ sym k.within.memory_part.size)

  pub state_same : (row c).on_block ≡ true → decoded (lends h.block t.made.block) ≡ decoded h.block
  state_same on = piece_state h k t.made.block ((lengths l c taken_number).block on)

  -- what it finds is there as it stands in the whole
  done_same : done_by c (lent c h next t.made) ≡ done_by c (wholly h t.made.buffer)
  done_same =
      let state : (found_by c l).state ≡ (found_by c all).state =
      split (row c).on_block (λ on. rw on (state_same on)) (λ off. rw off refl) in
      let memory : (found_by c l).memory ≡ (found_by c all).memory =
      split (row c).on_memory (λ on. rw on (memory_same on)) (λ off. rw off refl) in
      ap (λ (f : Found). (row c).does f) (λ j. record { state = state j; memory = memory j; buffer = t.made.buffer })

  left_here : t.made.outcome.left ≡ leaves c (lent c h next t.made)
  left_here = taken_leaves l c t.made.outcome t.made.promised t.fine

  -- what it says, and the buffer that it leaves, are those of a call that is lent all
  pub said_is : t.made.outcome.left.said ≡ (leaves c (wholly h t.made.buffer)).said
  said_is = ap (λ (x : Left). x.said) left_here ∙ ap (λ (d : Done). d.said) done_same

  pub buffer_is : t.made.outcome.left.buffer ≡ (leaves c (wholly h t.made.buffer)).buffer
  buffer_is = ap (λ (x : Left). x.buffer) left_here ∙ ap (λ (d : Done). d.buffer) done_same

  -- and so is the board
  module _ (brings : (row c).on_block ≡ true → AllBytes (row c).brings) where
    within_next : (row c).on_block ≡ true → Within (done_by c (lent c h next t.made)).state (cond (row c).on_memory (done_by c (lent c h next t.made)).memory h.memory)
    within_next on =
        does_within l h.memory k.within.memory_part
        (λ ok. subst (λ (s : Target). Within s h.memory) (sym (state_same on)) k.within)
        c on (split (row c).on_memory (λ lent. rw lent (memory_same lent)) (λ none. rw none refl)) (brings on) taken_number

    block_back : handed_back h.block t.made.block (leaves c (lent c h next t.made)).block ≡ (leaves c (wholly h t.made.buffer)).block
    block_back =
        split (row c).on_block
        (λ on.
        let next : Target = (done_by c l).state in
        let size = encoded_length next (within_fits next _ (within_next on)) in
        rw on
        (stored_back h.block t.made.block (encoded next) (omega (arith, size, k.long)) (omega (arith, size, (lengths l c taken_number).block on))
        ∙ ap (λ (d : Done). sets h.block 0 (encoded d.state)) done_same))
        (λ off. rw off (lent_back h.block t.made.block))

    memory_size : (row c).on_memory ≡ true → length (done_by c (lent c h next t.made)).memory ≡ length h.memory
    memory_size on =
        split (row c).on_block
        (λ lent. (rw on at (within_next lent).memory_part.size) ∙ sym k.within.memory_part.size)
        (λ none. (lengths l c taken_number).kept none ∙ ap length (memory_same on))

    memory_back : handed_back h.memory t.made.memory (leaves c (lent c h next t.made)).memory ≡ (leaves c (wholly h t.made.buffer)).memory
    memory_back =
        split (row c).on_memory
        (λ on.
        rw on
        (wholly_back h.memory t.made.memory (ap length (memory_same on)) (done_by c l).memory (memory_size on)
        ∙ ap (λ (d : Done). d.memory) done_same))
        (λ off. rw off (lent_back h.memory t.made.memory))

    pub next_is : next ≡ served c h t.made.buffer
    next_is =
        t.made.board
        ∙ ap (λ (x : Left). back c h next t.made x (sends c x)) left_here
        ∙ (λ j. behind h (block_back j) (memory_back j) ((row c).sends (done_same j).said (done_same j).buffer))

-- ---- when it is taken

pub ready : (h : Board) → state_length ≤ length h.block → Within (decoded h.block) h.memory → Ready h
ready h long w c buffer room due =
    let sound = sym (long_decides h.block long true (sym (within_sound (decoded h.block) h.memory w))) in
    (known c (wholly h buffer)).asked_taken
    (record { sound = sound; long = le-leb state_length (length h.block) long; memory = eq-eqb (length h.memory) memory_end w.memory_part.size })
    room due
