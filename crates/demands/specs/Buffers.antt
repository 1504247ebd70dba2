-- The lent buffer behind a byte that is taken, behind a block, and behind a frame.
use Rattle.std.specs.Prelude.{◌≡◌, List, ℕ, ◌≤◌, length, take, drop}
use Rattle.document.specs.Happenings.{Since}
use Rattle.document.specs.Blocks.{block_after}
use Rattle.demands.specs.Board.{Board}
use Rattle.laws_calls.specs.Calls.{Left, took_of, wrote_of}
use Rattle.demands.specs.AsDefined.{AsDefined}

-- "Bytes of it behind the answer keep their values; without an answer, all do.": an answer of n bytes, for which there was room
pub record BehindKept (room : ℕ) (buffer : List ℕ) (n : ℕ) (told : List ℕ) : Type 0 where
  pub behind : drop n told ≡ drop n buffer
  pub fits : n ≤ room

-- a block (2026-05) that is taken, behind what has happened: "writes the answers one behind another .. and reports bytes taken and
-- bytes written", and every other byte of the lent buffer keeps its value
pub record BlockAsDefined (s : Since) (bytes buffer : List ℕ) (x : Left) (next : Board) : Type 0 where
  pub taken : took_of x ≡ (block_after s (length buffer) bytes).taken
  pub written : wrote_of x ≡ length (block_after s (length buffer) bytes).written
  pub sent : take (wrote_of x) x.buffer ≡ (block_after s (length buffer) bytes).written
  pub behind : drop (wrote_of x) x.buffer ≡ drop (wrote_of x) buffer
  pub stands : AsDefined next (block_after s (length buffer) bytes).since
