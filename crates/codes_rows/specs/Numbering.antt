-- The served operations in the order of the list, numbered from 0.
use Rattle.std.specs.Prelude.{List, [], ◌∷◌, ℕ, get_or}
use Rattle.document.specs.declared.Operation.{Operation}
use Rattle.document.specs.declared.Operation.TheVariants.{Unserved, Describe, DescribeBriefly, Read, Write, WriteMasked, SetUpScope, ReadScope, PrepareAndStart, Start, Stop, Status, QueryBuffer, SendCommand, CommandResult, TellTable, MeasureString}

-- what is not served has no number, and 0 stands in its place
abbrev pub number_of : Operation → ℕ
number_of Unserved = 0
number_of Describe = 0
number_of DescribeBriefly = 1
number_of Read = 2
number_of Write = 3
number_of WriteMasked = 4
number_of SetUpScope = 5
number_of ReadScope = 6
number_of PrepareAndStart = 7
number_of Start = 8
number_of Stop = 9
number_of Status = 10
number_of QueryBuffer = 11
number_of SendCommand = 12
number_of CommandResult = 13
number_of TellTable = 14
number_of MeasureString = 15

abbrev pub operations : List Operation
operations =
    Describe
    ∷ DescribeBriefly
    ∷ Read
    ∷ Write
    ∷ WriteMasked
    ∷ SetUpScope
    ∷ ReadScope
    ∷ PrepareAndStart
    ∷ Start
    ∷ Stop
    ∷ Status
    ∷ QueryBuffer
    ∷ SendCommand
    ∷ CommandResult
    ∷ TellTable
    ∷ MeasureString
    ∷ []

abbrev pub operation_numbered : ℕ → Operation
operation_numbered n = get_or operations n Unserved
