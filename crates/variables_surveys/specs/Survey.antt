-- What the definitions of a part come to.
use Rattle.std.specs.Prelude.{◌&&◌, ◌||◌, List, ℕ, ◌+◌, eqb}
use Rattle.document.specs.declared.Variable.{Variable}
use Rattle.document.specs.Variables.{any_size_zero, all_may, set_size}
use Rattle.variables_list.specs.State.{up_to}
use Rattle.variables_surveys.specs.declared.Surveyed.{Surveyed}

abbrev pub surveyed : ℕ → List Variable → Surveyed
surveyed limit vs = record { zero = any_size_zero vs; within = all_may (up_to limit) vs; size = set_size vs }

-- with one definition more
abbrev pub looked_at : ℕ → Surveyed → Variable → Surveyed
looked_at limit before v =
    record {
      zero = before.zero || eqb v.size 0;
      within = before.within && up_to limit v.address v.size;
      size = before.size + v.size;
    }
