-- What a setup of the scope answers, and the scope after it.
use Rattle.std.specs.Prelude.{Bool, cond, List, ℕ, eqb}
use Rattle.document.specs.Numbers.{done}
use Rattle.document.specs.Variables.{variables_in}
use Rattle.document.specs.Scope.{scope_layout_wrong, scope_size_wrong, scope_range_wrong}
use Rattle.variables_list.specs.State.{kept}
use Rattle.variables_definitions.specs.Wrong.{first_wrong}
use Rattle.scope_state.specs.declared.Scope.{Scope}

unfoldable pub set_up_status : Bool → List ℕ → ℕ
set_up_status ex body = first_wrong (scope_layout_wrong ex body) (scope_size_wrong ex body) (scope_range_wrong ex body)

-- "The memory, scope and recorder keep their values"; accepted, the definitions as they are kept
unfoldable pub set_up_next : Scope → Bool → List ℕ → Scope
set_up_next s ex body = cond (eqb (set_up_status ex body) done) (record { variables = kept (variables_in ex body) }) s
