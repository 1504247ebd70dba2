-- What is left to take in, from the register as it is, gives the check sum of the whole. The table is its rule by one computation.
use mathlib.Core.Path.{◌≡◌}
use lib.ListN.{drop}
use Rattle.document.specs.CheckSum.{register_after, check_sum}
use Rattle.modbus_check_sums.proofs.check_sum.Given as goal

abbrev pub invariant-loop-byte : goal.invariant-loop-byte
invariant-loop-byte l = register_after l.register (drop l.byte-index l.bytes) ≡ check_sum l.bytes
