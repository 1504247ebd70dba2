-- The scope: its setup (0x08, 0x0A) and its reading (0xC5).
use Rattle.std.specs.Prelude.{Bool, true, false, not, ◌||◌, List, [], ℕ, length, eqb, ltb}
use Rattle.document.specs.Numbers.{most_data}
use Rattle.document.specs.Areas.{may_be_read}
use Rattle.document.specs.declared.Variable.{Variable}
use Rattle.document.specs.Variables.{count_in, variables_in, length_given, any_size_zero, count_wrong, all_may, set_size, values_of}

pub data Scope : Type 0 where
  absent : Scope
  watching : List Variable → Scope

-- "no accepted scope setup"
abbrev pub scope_absent : Scope → Bool
scope_absent absent = true
scope_absent (watching vs) = false

abbrev pub scope_variables : Scope → List Variable
scope_variables absent = []
scope_variables (watching vs) = vs

-- "a data length that is not the one its fields give (or too short to hold them)"
abbrev pub scope_layout_wrong : Bool → List ℕ → Bool
scope_layout_wrong ex body = not (eqb (length body) (length_given ex body))

-- "a size of 0; a variable count of 0 or above 8"
abbrev pub scope_size_wrong : Bool → List ℕ → Bool
scope_size_wrong ex body = count_wrong (count_in body) || any_size_zero (variables_in ex body)

-- "ranges are checked at setup": a variable may lie wherever reading may
abbrev pub scope_range_wrong : Bool → List ℕ → Bool
scope_range_wrong ex body = not (all_may may_be_read (variables_in ex body))

abbrev pub scope_set_up : Bool → List ℕ → Scope
scope_set_up ex body = watching (variables_in ex body)

-- "the answer's data would exceed 64 bytes"
abbrev pub scope_too_long : Scope → Bool
scope_too_long s = ltb most_data (set_size (scope_variables s))

-- "0xC5: the variables' bytes in that order."
abbrev pub scope_read : Scope → List ℕ → List ℕ
scope_read s memory = values_of memory (scope_variables s)
