-- "the first that applies in this order": whatever a message is, the lines that concern it stand in the table's order.
use mathlib.Core.Path.{◌≡◌, refl}
use mathlib.Core.Bool.{Bool, true, false, cond, not}
use mathlib.Core.List.{List, [], ◌∷◌}
use Prim.Native.Nat.{ℕ}
use lib.ListN.{length}
use lib.Dec.{eqb, ltb}
use Rattle.document.specs.Numbers.{most_data, sum_wrong, message_too_long}
use Rattle.document.specs.Message.{Message, sum_right}
use Rattle.document.specs.Services.{service_of}
use Rattle.document.specs.Gate.{Gate}
use Rattle.document.specs.Refusals.{Refusal, when, order, lines, table}
use Rattle.document.specs.declared.Operation.{Operation}
use Rattle.document.specs.declared.Operation.TheVariants.{Unserved, Describe, DescribeBriefly, Read, Write, WriteMasked, SetUpScope, ReadScope, PrepareAndStart, Start, Stop, Status, QueryBuffer, SendCommand, CommandResult, TellTable, MeasureString}
use Rattle.document.specs.declared.Service.{Service}

-- whether the statuses of these lines come in this order, each at most once
abbrev pub in_order : List ℕ → List Refusal → Bool
in_order [] [] = true
in_order [] (r ∷ rs) = false
in_order (s ∷ ss) [] = true
in_order (s ∷ ss) (r ∷ rs) = cond (eqb s r.status) (in_order ss rs) (in_order ss (r ∷ rs))

module _ (g : Gate) (s : Service) (body : List ℕ) (sum long : Bool) where
  ordered : (o : Operation) → in_order order (when sum_wrong sum ∷ when message_too_long long ∷ lines o g s body) ≡ true
  ordered Unserved = refl
  ordered Describe = refl
  ordered DescribeBriefly = refl
  ordered Read = refl
  ordered Write = refl
  ordered WriteMasked = refl
  ordered SetUpScope = refl
  ordered ReadScope = refl
  ordered PrepareAndStart = refl
  ordered Start = refl
  ordered Stop = refl
  ordered Status = refl
  ordered QueryBuffer = refl
  ordered SendCommand = refl
  ordered CommandResult = refl
  ordered TellTable = refl
  ordered MeasureString = refl

pub table_in_order : (g : Gate) (m : Message) → in_order order (table g m) ≡ true
table_in_order g m = ordered g (service_of m.command) m.body (not (sum_right m)) (ltb most_data (length m.body)) (service_of m.command).operation
