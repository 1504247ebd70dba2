-- What is left to pass gives the whole.
use mathlib.Core.Path.{◌≡◌}
use Prim.Native.Nat.{◌+◌, ◌-◌}
use lib.ListN.{drop}
use Rattle.state_byte.specs.Quiet.{plain_ahead}
use Rattle.call_quiet.proofs.plain_end.Given as goal

abbrev pub invariant-loop-i : goal.invariant-loop-i
invariant-loop-i l = l.i + plain_ahead (l.end - l.i) (drop l.i l.bytes) ≡ l.from + plain_ahead (l.end - l.from) (drop l.from l.bytes)
