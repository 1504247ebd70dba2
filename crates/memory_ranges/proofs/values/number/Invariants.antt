-- From the highest byte down: the number so far is that of the bytes passed, and below the power of their count.
use mathlib.Core.Path.{◌≡◌}
use Prim.Native.Nat.{◌-◌, ◌^◌, ◌<◌}
use lib.ListN.{length, drop}
use Rattle.document.specs.Values.{number}
use Rattle.memory_ranges.proofs.values.number.Given as goal

abbrev pub invariant-loop-byte : goal.invariant-loop-byte
invariant-loop-byte l = (l.x ≡ number (drop (length l.bytes - length l.yielded) l.bytes)) × (l.x < 256 ^ length l.yielded)
