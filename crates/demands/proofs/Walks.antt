-- A walk over a block, as boards: from each to the next a byte comes by a call of its own.
use mathlib.Core.Path.{◌≡◌, refl, sym, ap, subst, ◌∙◌}
use mathlib.Core.List.{List, [], ◌∷◌, ◌++◌, append-nil, append_assoc}
use Prim.Native.Nat.{ℕ, suc, ◌+◌, ◌-◌, ◌<◌, ◌≤◌}
use native.Mathlib.Nat.{add-zero, zero-add}
use native.Mathlib.Omega.{arith}
use borrow.Author.Tests.{ltb-true, ltb-false}
use lib.Dec.{ltb}
use lib.ListN.{length, take, drop, length-append, length-take, length-drop}
use lib.Seq.{sets, drop-drop}
use Rattle.document.specs.Numbers.{answer_room}
use Rattle.document.specs.Bytes.{AllBytes}
use Rattle.document.specs.Message.{finished_by}
use Rattle.document.specs.Happenings.{Since, after}
use Rattle.document.specs.Happenings.Happening.{byte}
use Rattle.document.specs.Blocks.{Block, brought_by, behind, stops, block_after}
use Rattle.document.proofs.Cases.{split}
use Rattle.laws_happenings.proofs.Blocks.{brought_told}
use Rattle.state_parts.specs.State.{Target, gate_of}
use Rattle.state_parts.specs.Within.{Within}
use Rattle.state_parts.proofs.Keeps.{within_fits}
use Rattle.state_byte.specs.Turn.{Turn, turn}
use Rattle.state_byte.specs.Walk.{Walk, byte_turn, onward, room, walked}
use Rattle.state_byte.proofs.Fits.{turn_size}
use Rattle.state_byte.proofs.Keeps.{byte_keeps}
use Rattle.state_byte.proofs.Walks.{walked_all, walked_short, walked_on}
use Rattle.state_block.specs.Places.{state_length}
use Rattle.state_block.specs.Layout.{decoded, encoded}
use Rattle.state_block.proofs.Back.{stored_decoded}
use Rattle.call_byte.proofs.Stores.{target_over}
use Rattle.laws_calls.specs.Calls.{Call}
use Rattle.demands.specs.Board.{Board}
use Rattle.demands.specs.AsDefined.{link_in}
use Rattle.demands.specs.Run.{Step, Singly, came}
use Rattle.demands.specs.Run.Singly.{ends, happens}
use Rattle.demands.proofs.Calls.{served}
use Rattle.demands.proofs.Exists.{takes}
use Rattle.demands.proofs.Bytes.{TurnMeans, turn_means}
use Rattle.demands.proofs.Reached.{Reached, kept, reached_byte}

-- ---- a walk, as boards

-- a walk that began at a board has come to this one
abbrev pub board_at : Board → Walk → Board
board_at first w =
    record {
      block = sets first.block 0 (encoded w.next);
      memory = w.memory;
      answers = first.answers ++ take w.written w.buffer;
      commands = first.commands;
      modbus_answers = first.modbus_answers;
    }

longer : (xs : List ℕ) (n : ℕ) → suc (length xs) + n ≡ suc (length xs + n)
longer xs n = omega arith

seam : (xs ys : List ℕ) (n : ℕ) → take (length xs + n) (xs ++ ys) ≡ xs ++ take n ys
seam [] ys n = ap (λ (k : ℕ). take k ys) (zero-add n)
seam (x ∷ xs) ys n = ap (λ (k : ℕ). take k (x ∷ (xs ++ ys))) (longer xs n) ∙ ap (λ (l : List ℕ). x ∷ l) (seam xs ys n)

beyond : (xs ys : List ℕ) (n : ℕ) → drop (length xs + n) (xs ++ ys) ≡ drop n ys
beyond [] ys n = ap (λ (k : ℕ). drop k ys) (zero-add n)
beyond (x ∷ xs) ys n = ap (λ (k : ℕ). drop k (x ∷ (xs ++ ys))) (longer xs n) ∙ beyond xs ys n

-- a walk has gone from w to its end over some of these bytes, as the document's block does
pub record Walks (first : Board) (w end : Walk) (bytes : List ℕ) (b : Block) : Type 0 where
  pub singly : Singly (board_at first w) (came b.taken bytes) (board_at first end)
  pub taken : end.taken ≡ w.taken + b.taken
  pub written : end.written ≡ w.written + length b.written
  pub told : take end.written end.buffer ≡ take w.written w.buffer ++ b.written
  pub behind : drop end.written end.buffer ≡ drop end.written w.buffer
  pub size : length end.buffer ≡ length w.buffer

module _ (first : Board) (w : Walk) (long : state_length ≤ length first.block) (within : Within w.next w.memory) (before : w.written ≤ length w.buffer) where
  front_size : length (take w.written w.buffer) ≡ w.written
  front_size = simp length-take (omega (arith, before))

  there : decoded (sets first.block 0 (encoded w.next)) ≡ w.next
  there = stored_decoded first.block w.next long (within_fits w.next w.memory within)

  module _ (b : ℕ) (small : b < 256) where
    abbrev rest : List ℕ
    rest = drop w.written w.buffer

    abbrev v : Turn
    v = byte_turn w b

    keeps : Within (byte_turn w b).next (byte_turn w b).memory
    keeps = byte_keeps w.next w.memory rest within b small

    -- a byte, singly, leaves the board that the walk comes to
    served_onward : served (Call.byte b) (board_at first w) (drop w.written w.buffer) ≡ board_at first (onward w (byte_turn w b))
    served_onward =
        let block : sets (sets first.block 0 (encoded w.next)) 0 (encoded (turn (decoded (board_at first w).block) b w.memory rest).next) ≡ sets first.block 0 (encoded v.next) =
        ap (λ (t : Target). sets (sets first.block 0 (encoded w.next)) 0 (encoded (turn t b w.memory rest).next)) there
        ∙ target_over first.block w.next v.next long (within_fits w.next w.memory within) (within_fits v.next v.memory keeps) in
        let sent : take (w.written + v.length) (take w.written w.buffer ++ v.buffer) ≡ take w.written w.buffer ++ take v.length v.buffer =
        ap (λ (n : ℕ). take (n + v.length) (take w.written w.buffer ++ v.buffer)) (sym front_size) ∙ seam (take w.written w.buffer) v.buffer v.length in
        let answers : (first.answers ++ take w.written w.buffer) ++ take (turn (decoded (board_at first w).block) b w.memory rest).length (turn (decoded (board_at first w).block) b w.memory rest).buffer ≡ first.answers ++ take (w.written + v.length) (take w.written w.buffer ++ v.buffer) =
        ap (λ (t : Target). (first.answers ++ take w.written w.buffer) ++ take (turn t b w.memory rest).length (turn t b w.memory rest).buffer) there
        ∙ append_assoc first.answers (take w.written w.buffer) (take v.length v.buffer)
        ∙ ap (λ (l : List ℕ). first.answers ++ l) (sym sent) in
        λ j. record { block = block j; memory = (turn (there j) b w.memory rest).memory; answers = answers j; commands = append-nil first.commands j; modbus_answers = append-nil first.modbus_answers j }

    module _ (s : Since) (r : Reached (board_at first w) s) (enough : answer_room ≤ room w) where
      rest_size : answer_room ≤ length (drop w.written w.buffer)
      rest_size = omega (arith, length-drop w.written w.buffer, enough)

      onward_reached : Reached (board_at first (onward w (byte_turn w b))) (after s (byte b))
      onward_reached =
          subst (λ (h : Board). Reached h (after s (byte b))) served_onward (reached_byte (board_at first w) s r b small rest rest_size)

      onward_step : Step (board_at first w) (byte b) (board_at first (onward w (byte_turn w b)))
      onward_step = subst (λ (h : Board). Step (board_at first w) (byte b) h) served_onward (takes (Call.byte b) (board_at first w) rest (kept (board_at first w) s r) (small, tt) rest_size refl)

      -- what it brings to the wire
      stood : TurnMeans (byte_turn w b) (drop w.written w.buffer) s.gate (s.bytes ++ (b ∷ [])) (finished_by s.bytes b)
      stood =
          turn_means w.next b w.memory rest rest_size s
          (sym (ap (λ (t : Target). gate_of t.instruments w.memory) there) ∙ r.stands.gate)
          (sym (ap link_in there) ∙ r.stands.link_part)

      sends : take (byte_turn w b).length (byte_turn w b).buffer ≡ brought_by s b
      sends = stood.answers ∙ sym (brought_told s b)

      brings : (byte_turn w b).length ≡ length (brought_by s b)
      brings =
          let all : length (take v.length v.buffer) ≡ v.length = simp length-take (omega (arith, stood.fits, turn_size w.next b w.memory rest, rest_size)) in
          sym all ∙ ap length sends

      onward_size : length (take w.written w.buffer ++ (byte_turn w b).buffer) ≡ length w.buffer
      onward_size =
          omega (arith, length-append (take w.written w.buffer) v.buffer, front_size, turn_size w.next b w.memory rest, length-drop w.written w.buffer, before)

      room_left : room (onward w (byte_turn w b)) ≡ room w - length (brought_by s b)
      room_left = omega (arith, onward_size, brings)

      onward_before : w.written + (byte_turn w b).length ≤ length (take w.written w.buffer ++ (byte_turn w b).buffer)
      onward_before = omega (arith, onward_size, stood.fits, enough, before)

      -- behind what it wrote, the buffer is as it was
      untouched : (n : ℕ) → w.written + (byte_turn w b).length ≤ n → drop n (take w.written w.buffer ++ (byte_turn w b).buffer) ≡ drop n w.buffer
      untouched n far =
          let k : ℕ = n - (w.written + v.length) in
          let parts : n ≡ length (take w.written w.buffer) + (v.length + k) = omega (arith, far, front_size) in
          let again : n ≡ w.written + (v.length + k) = omega (arith, far) in
          ap (λ (i : ℕ). drop i (take w.written w.buffer ++ v.buffer)) parts
          ∙ beyond (take w.written w.buffer) v.buffer (v.length + k)
          ∙ sym (drop-drop k v.length v.buffer)
          ∙ ap (drop k) stood.behind
          ∙ drop-drop k v.length rest
          ∙ drop-drop (v.length + k) w.written w.buffer
          ∙ ap (λ (i : ℕ). drop i w.buffer) (sym again)

      -- and so do the bytes behind it
      goes_on_lem : (end : Walk) (bs : List ℕ) (more : Block) → Walks first (onward w (byte_turn w b)) end bs more → Walks first w end (b ∷ bs) (behind (brought_by s b) more)
      goes_on_lem end bs more goes =
          let front : take (w.written + v.length) (take w.written w.buffer ++ v.buffer) ≡ take w.written w.buffer ++ brought_by s b =
          ap (λ (n : ℕ). take (n + v.length) (take w.written w.buffer ++ v.buffer)) (sym front_size)
          ∙ seam (take w.written w.buffer) v.buffer v.length
          ∙ ap (λ (l : List ℕ). take w.written w.buffer ++ l) sends in
          record {
            singly = happens (board_at first w) (board_at first (onward w v)) (board_at first end) (byte b) (came more.taken bs) onward_step goes.singly;
            taken = omega (arith, goes.taken);
            written = omega (arith, goes.written, brings, length-append (brought_by s b) more.written);
            told =
                goes.told
                ∙ ap (λ (l : List ℕ). l ++ more.written) front
                ∙ append_assoc (take w.written w.buffer) (brought_by s b) more.written;
            behind = goes.behind ∙ untouched end.written (omega (arith, goes.written));
            size = goes.size ∙ onward_size;
          }

-- nothing is taken
none_taken : (first : Board) (w : Walk) (bs : List ℕ) (s : Since) → Walks first w w bs (stops s)
none_taken first w bs s =
    record {
      singly = ends (board_at first w);
      taken = sym (add-zero w.taken);
      written = sym (add-zero w.written);
      told = sym (append-nil (take w.written w.buffer));
      behind = refl;
      size = refl;
    }

-- whatever the block and the room
pub walk_goes : (first : Board) → state_length ≤ length first.block → (bs : List ℕ) (w : Walk) (s : Since) → AllBytes bs → Within w.next w.memory → w.written ≤ length w.buffer
    → Reached (board_at first w) s → Walks first w (walked w bs) bs (block_after s (room w) bs)
walk_goes first long [] w s all within before r = subst (λ (end : Walk). Walks first w end [] (stops s)) (sym (walked_all w)) (none_taken first w [] s)
walk_goes first long (b ∷ bs) w s all within before r =
    split (ltb (room w) answer_room)
    (λ short.
    rw short
    (subst (λ (end : Walk). Walks first w end (b ∷ bs) (stops s)) (sym (walked_short w b bs (ltb-true (room w) answer_room short))) (none_taken first w (b ∷ bs) s)))
    (λ enough.
    let left : answer_room ≤ room w = ltb-false (room w) answer_room enough in
    let next : Walk = onward w (byte_turn w b) in
    rw enough
    (subst (λ (end : Walk). Walks first w end (b ∷ bs) (behind (brought_by s b) (block_after (after s (byte b)) (room w - length (brought_by s b)) bs))) (sym (walked_on w b bs left (byte_turn w b) refl))
    (goes_on_lem first w long within before b all.0 s r left (walked next bs) bs _
    (subst (λ (n : ℕ). Walks first next (walked next bs) bs (block_after (after s (byte b)) n bs)) (room_left first w long within before b all.0 s r left)
    (walk_goes first long bs next (after s (byte b)) all.1 (keeps first w long within before b all.0) (onward_before first w long within before b all.0 s r left)
    (onward_reached first w long within before b all.0 s r left))))))
