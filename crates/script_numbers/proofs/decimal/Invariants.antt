-- What is left of the digits gives the whole number.
use Rattle.std.proofs.Common.{◌≡◌, drop}
use Rattle.script_numbers.specs.Numbers.{decimal_from, decimal_of}
use Rattle.script_numbers.proofs.decimal.Given as goal

abbrev pub invariant-loop-character : goal.invariant-loop-character
invariant-loop-character l = decimal_from l.value (drop l.character-index l.text) ≡ decimal_of l.text
