-- What is left to store gives the whole: one register a turn.
use mathlib.Core.Path.{◌≡◌}
use Prim.Native.Nat.{◌+◌, ◌*◌}
use lib.ListN.{length, drop}
use Rattle.document.specs.Stores.{stored}
use Rattle.document.specs.Registers.{turned}
use Rattle.modbus_registers.proofs.copy_swapped.Given as goal

abbrev pub invariant-loop-register : goal.invariant-loop-register
invariant-loop-register l =
    (length l.to ≡ length l.initial.to) × (stored l.to (l.at + 2 * l.register) (turned (drop (2 * l.register) l.from)) ≡ stored l.initial.to l.at (turned l.from))
