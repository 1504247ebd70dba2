-- What is left of the bytes gives the whole: the invariant of the two sums.
use Rattle.std.proofs.Common.{◌≡◌, ◌<◌, drop}
use Rattle.script_adler.specs.Adler.{adler_from, adler32}
use Rattle.script_adler.proofs.adler32.Given as goal

abbrev pub invariant-loop-byte : goal.invariant-loop-byte
invariant-loop-byte l =
    (l.low < 65521) × (l.high < 65521) × (adler_from l.low l.high (drop l.byte-index l.bytes) ≡ adler32 l.bytes)
