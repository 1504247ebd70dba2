-- What is told of the scope: a status of its own, alone or with the variables' bytes.
use mathlib.Core.Path.{◌≡◌, refl}
use mathlib.Core.List.{List}
use Prim.Native.Nat.{ℕ, ◌≤◌}
use native.Mathlib.Omega.{arith}
use borrow.Author.Tests.{ltb-true, ltb-false}
use lib.Dec.{ltb}
use Rattle.document.specs.Numbers.{done, most_data}
use Rattle.document.specs.Scope.{scope_absent, scope_too_long}
use Rattle.document.specs.Variables.{set_size}
use Rattle.document.specs.Commands.{served}
use Rattle.document.specs.declared.Operation.TheVariants.{ReadScope}
use Rattle.document.specs.declared.Service.{Service}
use Rattle.document.proofs.Cases.{split}
use Rattle.variables_list.specs.State.{variables_of}
use Rattle.scope_state.specs.declared.Scope.{Scope}
use Rattle.scope_state.specs.State.{scope_of}
use Rattle.scope_state.specs.Read.{read_status, read_bytes}
use Rattle.scope_state.proofs.Given.{absent_status, long_status}
use Rattle.document_outcomes.specs.Known.{known_as}
use Rattle.state_parts.specs.State.{Instruments, gate_of}

pub scope_read_lem : (i : Instruments) (memory : List ℕ) (s : Service) (body : List ℕ)
    → record { status = read_status i.scope; body = read_bytes i.scope memory } ≡ (served (gate_of i memory) (known_as ReadScope s) body).answer
unfolding served read_status read_bytes
scope_read_lem i memory s body =
    split (scope_absent (scope_of i.scope))
    (λ none. rw none refl)
    (λ some. split (scope_too_long (scope_of i.scope)) (λ long. rw (some, long) refl) (λ short. rw (some, short) refl))

-- ---- what is known of a scope that gives its bytes

module _ (s : Scope) (given : read_status s ≡ done) where
  pub some : s.variables.count ≡ 0 → ⊥
  some none = absurd (omega (arith, given, absent_status s none))

  pub short : set_size (variables_of s.variables) ≤ most_data
  short =
      split (ltb most_data (set_size (variables_of s.variables)))
      (λ long. absurd (omega (arith, given, long_status s some (ltb-true most_data (set_size (variables_of s.variables)) long))))
      (λ few. ltb-false most_data (set_size (variables_of s.variables)) few)
