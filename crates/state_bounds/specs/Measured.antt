-- What is asked of definitions in one pass: whether each has a size and ends at or below a limit, and how many bytes they name.
use Rattle.std.specs.Prelude.{Bool, cond, not, ◌&&◌, List, Option, Some, None, ℕ}
use Rattle.document.specs.declared.Variable.{Variable}
use Rattle.document.specs.Variables.{any_size_zero, all_may, set_size}
use Rattle.variables_list.specs.State.{up_to}

unfoldable pub are_within : ℕ → List Variable → Bool
are_within limit vs = not (any_size_zero vs) && all_may (up_to limit) vs

abbrev pub measured : ℕ → List Variable → Option ℕ
measured limit vs = cond (are_within limit vs) (Some (set_size vs)) None
