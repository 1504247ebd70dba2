-- How far a block has been taken, as the lent bytes show it.
use Rattle.std.specs.Prelude.{◌≡◌, List, ℕ, ◌<◌, ◌≤◌, length, drop}
use Rattle.std.proofs.lemmas.List.Edits.{sets}
use Rattle.state_parts.specs.Within.{Within}
use Rattle.state_byte.specs.Walk.{Walk, begun, walked}
use Rattle.state_block.specs.Layout.{decoded, encoded}
use Rattle.call_block.specs.declared.Going.{Going}

-- the walk that has come so far
abbrev pub walk_at : ℕ → ℕ → List ℕ → List ℕ → List ℕ → Walk
walk_at taken written block memory buffer =
    record { taken = taken; written = written; next = decoded block; memory = memory; buffer = buffer }

-- bytes from a place on are taken: the walk goes on to the same end
pub record TookNext (bytes : List ℕ) (from at : ℕ) (r : Going) (block memory buffer after left told : List ℕ) : Type 0 where
  pub goes :
      walked (walk_at from at block memory buffer) (drop from bytes)
      ≡ walked (walk_at r.taken r.written after left told) (drop r.taken bytes)
  pub state : after ≡ sets block 0 (encoded (decoded after))
  pub within : Within (decoded after) left
  pub onward : from < r.taken
  pub inside : r.taken ≤ length bytes
  pub room : r.written ≤ length buffer

-- the bytes given singly, while there is room
abbrev pub walk : List ℕ → List ℕ → List ℕ → List ℕ → Walk
walk block bytes memory buffer = walked (begun (decoded block) memory buffer) bytes

-- the walk has come to its end
pub record Gone (bytes : List ℕ) (r : Going) (block memory buffer after left told : List ℕ) : Type 0 where
  pub taken : r.taken ≡ (walk block bytes memory buffer).taken
  pub written : r.written ≡ (walk block bytes memory buffer).written
  pub state : after ≡ sets block 0 (encoded (walk block bytes memory buffer).next)
  pub memory_left : left ≡ (walk block bytes memory buffer).memory
  pub buffer_told : told ≡ (walk block bytes memory buffer).buffer
