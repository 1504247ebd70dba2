-- What is said of the scope's setup: its own status, alone.
use mathlib.Core.Path.{◌≡◌, refl, sym}
use mathlib.Core.List.{List, []}
use Prim.Native.Nat.{ℕ}
use Rattle.document.specs.Numbers.{done}
use Rattle.document.specs.Scope.{scope_set_up}
use Rattle.document.specs.Gate.{Gate, says, with_scope}
use Rattle.document.specs.Refusals.{scope_set_up_lines}
use Rattle.document.specs.Commands.{served}
use Rattle.document.specs.declared.Operation.TheVariants.{SetUpScope}
use Rattle.document.specs.declared.Service.{Service}
use Rattle.scope_state.specs.Setup.{set_up_status}
use Rattle.document_outcomes.specs.Known.{known_as}
use Rattle.document_outcomes.proofs.Firsts.{unless_alone}
use Rattle.serve_recorder.specs.Operates.{status_alone}

pub scope_set_up_lem : (g : Gate) (s : Service) (body : List ℕ) → status_alone (set_up_status s.ex body) ≡ (served g (known_as SetUpScope s) body).answer
unfolding served set_up_status
scope_set_up_lem g s body =
    sym (unless_alone g (scope_set_up_lines s.ex body) (says (with_scope g (scope_set_up s.ex body)) done []) refl)
