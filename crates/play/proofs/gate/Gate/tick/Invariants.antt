-- A tick is no byte, and no order of its own.
use Rattle.std.proofs.Common.{◌≡◌}
use Rattle.play.proofs.gate.Gate.tick.Given as goal

abbrev pub invariant-loop : goal.invariant-loop
invariant-loop l = (l.self.given ≡ l.fn.self.given) × (l.self.concerned ≡ l.fn.self.concerned)
