-- What a reading of the scope answers.
use Rattle.std.specs.Prelude.{cond, List, [], ◌∷◌, ℕ, eqb}
use Rattle.document.specs.Numbers.{done, not_set_up, answer_too_long}
use Rattle.document.specs.Scope.{scope_absent, scope_too_long, scope_read}
use Rattle.document.specs.Refusals.{when, first_of}
use Rattle.scope_state.specs.declared.Scope.{Scope}
use Rattle.scope_state.specs.State.{scope_of}

-- "scope read with no accepted scope setup", then "the answer's data would exceed 64 bytes"
unfoldable pub read_status : Scope → ℕ
read_status s = first_of (when not_set_up (scope_absent (scope_of s)) ∷ when answer_too_long (scope_too_long (scope_of s)) ∷ [])

-- "the variables' bytes in that order", or none
unfoldable pub read_bytes : Scope → List ℕ → List ℕ
read_bytes s memory = cond (eqb (read_status s) done) (scope_read (scope_of s) memory) []
