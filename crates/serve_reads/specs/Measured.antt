-- A string's length, or the status that refuses it: each is what the service answers.
use Rattle.std.specs.Prelude.{◌≡◌, List, [], ℕ}
use Rattle.codes_table.specs.declared.statuses.Status.{Status}
use Rattle.codes_table.specs.Statuses.{status_number}
use Rattle.document.specs.Numbers.{done}
use Rattle.document.specs.Values.{little_endian}
use Rattle.document.specs.Gate.{Gate}
use Rattle.document.specs.Commands.{served}
use Rattle.document.specs.declared.Operation.TheVariants.{MeasureString}
use Rattle.document.specs.declared.Service.{Service}
use Rattle.document_outcomes.specs.Known.{known_as}

abbrev pub IsMeasured : Gate → Service → List ℕ → ℕ → Type 0
IsMeasured g s body size = record { status = done; body = little_endian 2 size } ≡ (served g (known_as MeasureString s) body).answer

abbrev pub IsUnmeasured : Gate → Service → List ℕ → Status → Type 0
IsUnmeasured g s body status = record { status = status_number status; body = [] } ≡ (served g (known_as MeasureString s) body).answer
