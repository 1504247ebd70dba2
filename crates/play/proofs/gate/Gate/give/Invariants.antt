-- Every byte that was given is counted, and whether an order concerned the gate is not touched.
use Rattle.std.proofs.Common.{◌≡◌, ◌+◌, ◌%◌, ◌^◌}
use Rattle.play.proofs.gate.Gate.give.Given as goal

abbrev pub invariant-loop-byte : goal.invariant-loop-byte
invariant-loop-byte g l =
    (l.self.given ≡ (l.fn.self.given + l.byte-index) % 2 ^ 64) × (l.self.concerned ≡ l.fn.self.concerned)
