-- A block is its bytes, given singly: a run in which bytes come in blocks is one in which each comes by a call of its own.
use mathlib.Core.Path.{◌≡◌, sym, ap, subst, ◌∙◌}
use mathlib.Core.List.{List, [], ◌∷◌, ◌++◌, append-nil}
use Prim.Native.Nat.{ℕ, zero, suc}
use native.Mathlib.Nat.{zero-add, sub-zero}
use native.Mathlib.Omega.{arith}
use lib.ListN.{length, get_or, take, drop}
use lib.Seq.{sets}
use Rattle.document.specs.Bytes.{AllBytes}
use Rattle.document.specs.Happenings.{Happening, Since, after, after_all}
use Rattle.document.specs.Blocks.{block_after}
use Rattle.laws_happenings.specs.Bytes.{AreBytes}
use Rattle.laws_happenings.proofs.Blocks.{block_came}
use Rattle.state_byte.specs.Walk.{Walk, begun, walked}
use Rattle.state_block.specs.Layout.{decoded, encoded}
use Rattle.laws_calls.specs.Calls.{Call, took_of, wrote_of}
use Rattle.demands.specs.Board.{Board}
use Rattle.demands.specs.Run.{Takes, Singly, came, Run}
use Rattle.demands.specs.Run.Run.{ends, happens, blocks, refuses}
use Rattle.demands.specs.AsDefined.{AsDefined}
use Rattle.demands.specs.Buffers.{BlockAsDefined}
use Rattle.demands.proofs.Calls.{refused_kept, said_is, buffer_is, next_is}
use Rattle.demands.proofs.Reached.{Reached, kept}
use Rattle.demands.proofs.Runs.{reached_step, reached_singly}
use Rattle.demands.proofs.Joined.{are_parts}
use Rattle.demands.proofs.Walks.{board_at, Walks, walk_goes}

module _ (h : Board) (s : Since) (r : Reached h s) (bytes : List ℕ) (all : AllBytes bytes) (next : Board) (t : Takes (Call.receive bytes) h next) where
  abbrev begins : Walk
  begins = begun (decoded h.block) h.memory t.made.buffer

  abbrev end : Walk
  end = walked (begun (decoded h.block) h.memory t.made.buffer) bytes

  -- a walk begins at the board
  begun_here : board_at h (begun (decoded h.block) h.memory t.made.buffer) ≡ h
  begun_here = λ j. record { block = r.stored j; memory = h.memory; answers = append-nil h.answers j; commands = h.commands; modbus_answers = h.modbus_answers }

  goes : Walks h (begun (decoded h.block) h.memory t.made.buffer) (walked (begun (decoded h.block) h.memory t.made.buffer) bytes) bytes (block_after s (length t.made.buffer) bytes)
  goes =
      subst (λ (n : ℕ). Walks h begins end bytes (block_after s n bytes)) (sub-zero (length t.made.buffer))
      (walk_goes h r.long bytes begins s all r.within (omega arith) (subst (λ (q : Board). Reached q s) (sym begun_here) r))

  -- what is said, and the buffer then, is what the walk comes to
  said_walked : t.made.outcome.left.said ≡ end.taken ∷ end.written ∷ []
  said_walked = said_is (Call.receive bytes) h next t (kept h s r)

  wrote_walked : wrote_of t.made.outcome.left ≡ (walked (begun (decoded h.block) h.memory t.made.buffer) bytes).written
  wrote_walked = ap (λ (l : List ℕ). get_or l 1 0) said_walked

  buffer_walked : t.made.outcome.left.buffer ≡ (walked (begun (decoded h.block) h.memory t.made.buffer) bytes).buffer
  buffer_walked = buffer_is (Call.receive bytes) h next t (kept h s r)

  board_is : next ≡ board_at h (walked (begun (decoded h.block) h.memory t.made.buffer) bytes)
  board_is =
      next_is (Call.receive bytes) h next t (kept h s r) (λ on. all)
      ∙ (λ j.
      record {
        block = sets h.block 0 (encoded end.next);
        memory = end.memory;
        answers = h.answers ++ take end.written end.buffer;
        commands = append-nil h.commands j;
        modbus_answers = append-nil h.modbus_answers j;
      })

  taken_is : took_of t.made.outcome.left ≡ (block_after s (length t.made.buffer) bytes).taken
  taken_is = ap (λ (l : List ℕ). get_or l 0 0) said_walked ∙ goes.taken ∙ zero-add _

  written_is : wrote_of t.made.outcome.left ≡ length (block_after s (length t.made.buffer) bytes).written
  written_is = wrote_walked ∙ goes.written ∙ zero-add _

  -- the taken bytes, each by a call of its own, come to the same board
  pub block_singly : Singly h (came (took_of t.made.outcome.left) bytes) next
  block_singly =
      subst (λ (n : ℕ). Singly h (came n bytes) next) (sym taken_is)
      (subst (λ (q : Board). Singly h (came (block_after s (length t.made.buffer) bytes).taken bytes) q) (sym board_is)
      (subst (λ (q : Board). Singly q (came (block_after s (length t.made.buffer) bytes).taken bytes) (board_at h end)) begun_here goes.singly))

  come : (n : ℕ) (bs : List ℕ) → AllBytes bs → AreBytes (came n bs)
  come zero bs all = tt
  come (suc n) [] all = tt
  come (suc n) (b ∷ bs) all = (all.0, come n bs all.1)

  abbrev took : ℕ
  took = took_of t.made.outcome.left

  pub block_reached : Reached next (after_all s (came (took_of t.made.outcome.left) bytes))
  block_reached = reached_singly h next (came took bytes) block_singly s (come took bytes all) r

  pub block_means : BlockAsDefined s bytes t.made.buffer t.made.outcome.left next
  block_means =
      record {
        taken = taken_is;
        written = written_is;
        sent = (λ j. take (wrote_walked j) (buffer_walked j)) ∙ goes.told;
        behind = (λ j. drop (wrote_walked j) (buffer_walked j)) ∙ goes.behind ∙ ap (λ (n : ℕ). drop n t.made.buffer) (sym wrote_walked);
        stands =
            subst (λ (q : Since). AsDefined next q)
            (ap (λ (n : ℕ). after_all s (came n bytes)) taken_is ∙ sym (block_came bytes s (length t.made.buffer))) block_reached.stands;
      }

-- ---- runs

-- one run behind another
behind : (h mid last : Board) (es fs : List Happening) → Singly h es mid → Singly mid fs last → Singly h (es ++ fs) last
behind h mid last es fs (Singly.ends _) on = on
behind h mid last es fs (Singly.happens _ next _ e rest step run) on = Singly.happens h next last e (rest ++ fs) step (behind next mid last rest fs run on)
behind h mid last es fs (Singly.refuses _ next _ _ refused run) on = Singly.refuses h next last (es ++ fs) refused (behind next mid last es fs run on)

-- a run in which bytes come in blocks is one in which they come singly
pub singly : (h last : Board) (hs : List Happening) → Run h hs last → (s : Since) → AreBytes hs → Reached h s → Singly h hs last
singly h last hs (ends _) s are r = Singly.ends h
singly h last hs (happens _ next _ e es step run) s are r =
    Singly.happens h next last e es step (singly next last es run (after s e) are.1 (reached_step h s r e next are.0 step))
singly h last hs (blocks _ next _ bytes es all taking run) s are r =
    let these : List Happening = came (took_of taking.made.outcome.left) bytes in
    behind h next last these es (block_singly h s r bytes all next taking)
    (singly next last es run (after_all s these) (are_parts these es are).1 (block_reached h s r bytes all next taking))
singly h last hs (refuses _ next _ _ refused run) s are r =
    Singly.refuses h next last hs refused (singly next last hs run s are (subst (λ (q : Board). Reached q s) (sym (refused_kept h next refused)) r))

pub reached_run : (h last : Board) (hs : List Happening) → Run h hs last → (s : Since) → AreBytes hs → Reached h s → Reached last (after_all s hs)
reached_run h last hs run s are r = reached_singly h last hs (singly h last hs run s are r) s are r
