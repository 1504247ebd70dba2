-- What is left to put gives the whole: the invariant of a doubled copy.
use mathlib.Core.Path.{◌≡◌}
use Prim.Native.Nat.{◌+◌, ◌<◌, ◌%◌}
use lib.ListN.{length, drop}
use lib.Seq.{sets}
use Rattle.document.specs.Doubling.{stuffed}
use Rattle.document.specs.Sum.{total}
use Rattle.line_wire.proofs.doubling.put_all.Given as goal

abbrev pub invariant-loop-byte : goal.invariant-loop-byte
invariant-loop-byte l =
    (length l.out ≡ length l.initial.out)
    × (l.progress.sum < 256)
    × (l.progress.at + length (stuffed (drop l.byte-index l.bytes)) ≡ l.initial.progress.at + length (stuffed l.bytes))
    × ((l.progress.sum + total (drop l.byte-index l.bytes)) % 256 ≡ (l.initial.progress.sum + total l.bytes) % 256)
    × (sets l.out l.progress.at (stuffed (drop l.byte-index l.bytes)) ≡ sets l.initial.out l.initial.progress.at (stuffed l.bytes))
