-- The scope's state: what it stands for, and its bounds.
use Rattle.std.specs.Prelude.{Bool, cond, not, ◌&&◌, [], eqb, leb}
use Rattle.document.specs.Areas.{may_be_read}
use Rattle.document.specs.Variables.{any_size_zero, all_may}
use Rattle.document.specs.Scope.{Scope as DocumentScope}
use Rattle.document.specs.Scope.Scope.{absent, watching}
use Rattle.variables_list.specs.State.{variables_of, kept}
use Rattle.scope_state.specs.declared.Scope.{Scope}

-- a count of 0 is "no accepted scope setup"
abbrev pub scope_of : Scope → DocumentScope
scope_of s = cond (eqb s.variables.count 0) absent (watching (variables_of s.variables))

-- the scope at reset
abbrev pub no_scope : Scope
no_scope = record { variables = kept [] }

-- "a state outside the bounds listed in docs/": at most eight variables, none of size 0, each where reading may go
unfoldable pub sound : Scope → Bool
sound s =
    leb s.variables.count 8
    && (not (any_size_zero (variables_of s.variables)) && all_may may_be_read (variables_of s.variables))
