-- What is left to walk gives the whole.
use mathlib.Core.Path.{◌≡◌}
use mathlib.Core.List.{List}
use Prim.Native.Nat.{ℕ, ◌+◌, ◌-◌, ◌≤◌}
use lib.ListN.{length}
use Rattle.document_captures.specs.Captures.{captured}
use Rattle.line_captures.specs.Entries.{put_all}
use Rattle.line_captures.specs.Walk.{captured_from}
use Rattle.line_captures.proofs.walk.walk.Given as goal

pub record Left (bytes before list : List ℕ) (at n : ℕ) : Type 0 where
  pub count : n + length (captured_from bytes at) ≡ length (captured bytes)
  pub filled : put_all list n (captured_from bytes at) ≡ put_all before 0 (captured bytes)
  pub few : n ≤ at
  pub inside : at ≤ length bytes
  pub same : length list ≡ length before

abbrev pub invariant-loop-at : goal.invariant-loop-at
invariant-loop-at l = Left l.bytes l.initial.list l.list l.at l.n

abbrev pub decreases-loop-at : goal.decreases-loop-at
decreases-loop-at l = length l.bytes - l.at
