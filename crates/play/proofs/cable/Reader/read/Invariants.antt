-- Every byte that was given is counted.
use Rattle.std.proofs.Common.{◌≡◌, ◌+◌, ◌%◌, ◌^◌}
use Rattle.play.proofs.cable.Reader.read.Given as goal

abbrev pub invariant-loop-byte : goal.invariant-loop-byte
invariant-loop-byte g l = l.self.given ≡ (l.fn.self.given + l.byte-index) % 2 ^ 64
