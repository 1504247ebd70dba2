-- The numbering of the served operations goes both ways.
use mathlib.Core.Path.{◌≡◌, refl}
use Prim.Native.Nat.{ℕ, ◌<◌}
use lib.ListN.{length}
use Rattle.document.specs.declared.Operation.{Operation}
use Rattle.document.specs.declared.Operation.TheVariants.{Unserved, Describe, DescribeBriefly, Read, Write, WriteMasked, SetUpScope, ReadScope, PrepareAndStart, Start, Stop, Status, QueryBuffer, SendCommand, CommandResult, TellTable, MeasureString}
use Rattle.codes_rows.specs.Numbering.{operations, number_of, operation_numbered}
use Rattle.codes_table.proofs.Entries.{same_rule}

pub operation_of_number : (o : Operation) → (o ≡ Unserved → ⊥) → operation_numbered (number_of o) ≡ o
operation_of_number Unserved served = absurd (served refl)
operation_of_number Describe served = refl
operation_of_number DescribeBriefly served = refl
operation_of_number Read served = refl
operation_of_number Write served = refl
operation_of_number WriteMasked served = refl
operation_of_number SetUpScope served = refl
operation_of_number ReadScope served = refl
operation_of_number PrepareAndStart served = refl
operation_of_number Start served = refl
operation_of_number Stop served = refl
operation_of_number Status served = refl
operation_of_number QueryBuffer served = refl
operation_of_number SendCommand served = refl
operation_of_number CommandResult served = refl
operation_of_number TellTable served = refl
operation_of_number MeasureString served = refl

pub number_of_operation : (n : ℕ) → n < length operations → number_of (operation_numbered n) ≡ n
number_of_operation n h = same_rule (λ (k : ℕ). number_of (operation_numbered k)) (λ (k : ℕ). k) 0 (length operations) n refl h
