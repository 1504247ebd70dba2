-- A walk over a block, byte by byte: where it stops, and how it goes on.
use mathlib.Core.Path.{◌≡◌, refl, sym, subst}
use mathlib.Core.List.{List, [], ◌∷◌}
use Prim.Native.Nat.{ℕ, ◌+◌, ◌<◌, ◌≤◌}
use native.Mathlib.Nat.{add-zero}
use borrow.Author.Tests.{lt-ltb, le-ltb, ltb-true, ltb-false}
use lib.Dec.{ltb}
use lib.ListN.{drop, take-append-drop}
use Rattle.document.specs.Numbers.{answer_room}
use Rattle.document.specs.Bytes.{AllBytes}
use Rattle.document.proofs.Cases.{split}
use Rattle.state_parts.specs.State.{Target}
use Rattle.state_parts.specs.Within.{Within}
use Rattle.state_byte.specs.Turn.{Turn, silent}
use Rattle.state_byte.specs.Walk.{Walk, byte_turn, onward, room, walked}
use Rattle.state_byte.proofs.Keeps.{byte_keeps}

module _ (w : Walk) where
  pub walked_all : walked w [] ≡ w
  unfolding walked
  walked_all = refl

  module _ (b : ℕ) (bs : List ℕ) where
    pub walked_short : room w < answer_room → walked w (b ∷ bs) ≡ w
    unfolding walked
    walked_short short = rw (lt-ltb (room w) answer_room short) refl

    module _ (long : answer_room ≤ room w) where
      pub walked_on : (u : Turn) → byte_turn w b ≡ u → walked w (b ∷ bs) ≡ walked (onward w u) bs
      unfolding walked
      walked_on u e = rw (le-ltb (room w) answer_room long) (λ i. walked (onward w (e i)) bs)

-- within bounds at its beginning, a walk is so at its end
pub walked_keeps : (bs : List ℕ) (w : Walk) → AllBytes bs → Within w.next w.memory → Within (walked w bs).next (walked w bs).memory
walked_keeps [] w all within = subst (λ (k : Walk). Within k.next k.memory) (sym (walked_all w)) within
walked_keeps (b ∷ bs) w all within =
    split (ltb (room w) answer_room)
    (λ short. subst (λ (k : Walk). Within k.next k.memory) (sym (walked_short w b bs (ltb-true (room w) answer_room short))) within)
    (λ long.
    subst (λ (k : Walk). Within k.next k.memory) (sym (walked_on w b bs (ltb-false (room w) answer_room long) (byte_turn w b) refl))
    (walked_keeps bs (onward w (byte_turn w b)) all.1 (byte_keeps w.next w.memory (drop w.written w.buffer) within b all.0)))

-- a byte without an answer: the state changes, and nothing that is lent
abbrev pub heard_only : Walk → ℕ → Target → Walk
heard_only w n t =
    record { taken = w.taken + n; written = w.written; next = t; memory = w.memory; buffer = w.buffer }

pub silent_onward : (w : Walk) (t : Target) → onward w (silent t w.memory (drop w.written w.buffer)) ≡ heard_only w 1 t
silent_onward w t i =
    record {
      taken = w.taken + 1;
      written = add-zero w.written i;
      next = t;
      memory = w.memory;
      buffer = take-append-drop w.written w.buffer i;
    }
