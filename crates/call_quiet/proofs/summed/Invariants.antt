-- What is left to add gives the whole.
use mathlib.Core.Path.{◌≡◌}
use Prim.Native.Nat.{◌+◌, ◌%◌, ◌<◌}
use lib.ListN.{drop}
use Rattle.document.specs.Sum.{total}
use Rattle.call_quiet.proofs.summed.Given as goal

abbrev pub invariant-loop-byte : goal.invariant-loop-byte
invariant-loop-byte l =
    (l.so_far < 256) × ((l.so_far + total (drop l.byte-index l.bytes)) % 256 ≡ (l.sum + total l.bytes) % 256)
