-- From every board within its bounds each call that is lent enough can be taken, and refused whenever its number says so.
use mathlib.Core.Path.{◌≡◌, refl, ap, subst, ◌∙◌}
use mathlib.Core.Bool.{true}
use mathlib.Core.List.{List, [], append-nil}
use Prim.Native.Nat.{ℕ, ◌≤◌}
use native.Mathlib.Omega.{arith}
use lib.ListN.{length, take, replicate, length-replicate}
use lib.Seq.{take-length}
use Rattle.document.specs.Bytes.{AllBytes}
use Rattle.document.specs.Numbers.{taken}
use Rattle.document.specs.Stores.{stored}
use Rattle.state_parts.specs.Within.{Within}
use Rattle.state_block.specs.Places.{state_length}
use Rattle.state_block.specs.Layout.{decoded}
use Rattle.laws_calls.specs.Calls.{Call, Outcome, row, number_of, sends, outcome}
use Rattle.laws_calls.proofs.Allowed.{allowed}
use Rattle.demands.specs.Board.{Board, with_memory, behind}
use Rattle.demands.specs.Pieces.{Piece, lends, handed_back}
use Rattle.demands.specs.Run.{wholly, Makes, Takes, partly, Refuses, Doing, brought_by, Does, DueTo}
use Rattle.demands.specs.Run.Doing.{calls, stores}
use Rattle.demands.proofs.Calls.{refused_kept, served, Kept, ready, next_is}

-- all of it
abbrev whole : List ℕ → Piece
whole l = record { size = length l; behind = [] }

whole_lent : (l : List ℕ) → lends l (whole l) ≡ l
whole_lent l = ap (take (length l)) (append-nil l) ∙ take-length l

-- a call over whatever pieces
module _ (c : Call) (h : Board) (block memory : Piece) (buffer : List ℕ) where
  abbrev o : Outcome
  o = outcome c (partly h block memory buffer)

  abbrev back : Board
  back =
      behind h (handed_back h.block block (outcome c (partly h block memory buffer)).left.block)
      (handed_back h.memory memory (outcome c (partly h block memory buffer)).left.memory) (sends c (outcome c (partly h block memory buffer)).left)

  abbrev makes : Makes c h back
  makes =
      record {
        block = block;
        memory = memory;
        buffer = buffer;
        outcome = o;
        promised = allowed (partly h block memory buffer) c;
        board = refl;
      }

  -- it leaves the board where it is refused
  pub refuses : (number_of c (partly h block memory buffer) ≡ taken → ⊥) → Refuses h h
  refuses refused =
      let call : Refuses h back = record { call = c; made = makes; refused = refused } in
      subst (λ (q : Board). Refuses h q) (refused_kept h back call) call

module _ (c : Call) (h : Board) (buffer : List ℕ) where
  pub all_lent : partly h (whole h.block) (whole h.memory) buffer ≡ wholly h buffer
  all_lent = λ j. record { block = whole_lent h.block j; memory = whole_lent h.memory j; buffer = buffer }

  -- lent all, and this buffer
  abbrev pub takes_all : state_length ≤ length h.block → Within (decoded h.block) h.memory → (row c).room ≤ length buffer
      → (row c).due (decoded h.block) h.memory ≡ true → Takes c h (back c h (whole h.block) (whole h.memory) buffer)
  takes_all long within room due =
      record {
        made = makes c h (whole h.block) (whole h.memory) buffer;
        fine = ap (number_of c) all_lent ∙ ready h long within c buffer room due;
      }

  pub takes : Kept h → AllBytes (row c).brings → (row c).room ≤ length buffer → (row c).due (decoded h.block) h.memory ≡ true → Takes c h (served c h buffer)
  takes k brings room due =
      let call = takes_all k.long k.within room due in
      subst (λ (q : Board). Takes c h q) (next_is c h _ call k (λ on. brings)) call

-- ---- what can happen

-- lent as much as it asks for
abbrev room_for : Call → List ℕ
room_for c = replicate (row c).room 0

module _ (h : Board) (k : Kept h) where
  pub can_do : (d : Doing) → AllBytes (brought_by d) → DueTo h d → (next : Board) × Does h d next
  can_do (calls c) are due = (served c h (room_for c), takes c h (room_for c) k are (omega (arith, length-replicate {A = ℕ} (row c).room 0)) due)
  can_do (stores address bytes) are due = (with_memory h (stored h.memory address bytes), refl)
