-- What is left to copy gives the whole: one variable a turn; below the place nothing changes.
use mathlib.Core.Bool.{true}
use mathlib.Core.Path.{◌≡◌}
use Prim.Native.Nat.{◌+◌, ◌-◌, ◌*◌}
use lib.ListN.{length, take, drop}
use Rattle.document.specs.Areas.{may_be_recorded}
use Rattle.document.specs.Stores.{stored}
use Rattle.document.specs.Variables.{definitions_in, all_may, set_size, values_of}
use Rattle.variables_sets.proofs.copy_set.Given as goal

abbrev pub invariant-loop-k : goal.invariant-loop-k
invariant-loop-k l =
    record {
      long : length l.memory ≡ length l.initial.memory;
      below : take l.at l.memory ≡ take l.at l.initial.memory;
      may : all_may may_be_recorded (definitions_in true (l.count - l.k) (drop (l.from + l.k * 5) l.block)) ≡ true;
      sized : l.done + set_size (definitions_in true (l.count - l.k) (drop (l.from + l.k * 5) l.block)) ≡ l.size;
      gives : stored l.memory (l.at + l.done) (values_of l.initial.memory (definitions_in true (l.count - l.k) (drop (l.from + l.k * 5) l.block)))
          ≡ stored l.initial.memory l.at (values_of l.initial.memory (definitions_in true l.count (drop l.from l.block)));
    }
