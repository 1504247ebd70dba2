-- What is left to read gives the whole.
use mathlib.Core.Path.{◌≡◌}
use mathlib.Core.List.{List}
use Prim.Native.Nat.{ℕ, ◌+◌, ◌-◌, ◌%◌, ◌<◌}
use lib.ListN.{length, take}
use Rattle.document.specs.Sum.{total}
use Rattle.line_captures.specs.Messages.{literals_from, Passed}
use Rattle.line_captures.proofs.messages.taken_literals.Given as goal

pub record Left (bytes : List ℕ) (from n sum at missing so_far : ℕ) : Type 0 where
  pub missing_then : missing - length (literals_from bytes at) ≡ n - length (literals_from bytes from)
  pub sum_then : (so_far + total (take missing (literals_from bytes at))) % 256 ≡ (sum + total (take n (literals_from bytes from))) % 256
  pub passed : Passed bytes from at
  pub small : so_far < 256

abbrev pub invariant-loop-span : goal.invariant-loop-span
invariant-loop-span l = Left l.bytes l.from l.n l.sum l.span.behind l.span.missing l.span.sum

abbrev pub decreases-loop-span : goal.decreases-loop-span
decreases-loop-span l = l.span.missing
