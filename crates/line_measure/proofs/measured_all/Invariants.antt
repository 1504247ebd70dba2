-- What is left to measure gives the whole.
use mathlib.Core.Path.{◌≡◌}
use Prim.Native.Nat.{◌+◌, ◌*◌, ◌<◌, ◌≤◌}
use lib.ListN.{drop}
use Rattle.line_wire.specs.Put.{progressed}
use Rattle.line_measure.proofs.measured_all.Given as goal

abbrev pub invariant-loop-byte : goal.invariant-loop-byte
invariant-loop-byte l =
    (l.progress.at ≤ 4 + l.byte-index * 2)
    × (l.progress.sum < 256)
    × (progressed l.progress (drop l.byte-index l.bytes) ≡ progressed l.initial.progress l.bytes)
