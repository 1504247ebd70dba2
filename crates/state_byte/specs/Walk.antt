-- A block of bytes (2026-05): each is taken as it would be singly, and the answers stand one behind another in the lent buffer.
use Rattle.std.specs.Prelude.{cond, List, [], ◌∷◌, ◌++◌, ℕ, ◌+◌, ◌-◌, ltb, length, take, drop}
use Rattle.document.specs.Numbers.{answer_room}
use Rattle.state_parts.specs.State.{Target}
use Rattle.state_byte.specs.Turn.{Turn, turn}

-- how far a block is: "bytes taken and bytes written", the state, and what is lent
pub record Walk : Type 0 where
  pub taken : ℕ
  pub written : ℕ
  pub next : Target
  pub memory : List ℕ
  pub buffer : List ℕ

abbrev pub begun : Target → List ℕ → List ℕ → Walk
begun t memory buffer = record { taken = 0; written = 0; next = t; memory = memory; buffer = buffer }

-- a byte, singly: it is lent what is left of the buffer
abbrev pub byte_turn : Walk → ℕ → Turn
byte_turn w b = turn w.next b w.memory (drop w.written w.buffer)

abbrev pub onward : Walk → Turn → Walk
onward w u =
    record {
      taken = w.taken + 1;
      written = w.written + u.length;
      next = u.next;
      memory = u.memory;
      buffer = take w.written w.buffer ++ u.buffer;
    }

abbrev pub room : Walk → ℕ
room w = length w.buffer - w.written

-- "It takes bytes while 132 bytes of room are left, and no longer"
unfoldable pub walked : Walk → List ℕ → Walk
walked w [] = w
walked w (b ∷ bs) = cond (ltb (room w) answer_room) w (walked (onward w (byte_turn w b)) bs)
