-- The table's rule: an entry is the sum of its columns.
use Rattle.std.specs.Prelude.{Bool, cond, ℕ, ◌+◌, ◌*◌}
use Rattle.document.specs.Services.{service_of}
use Rattle.document.specs.Kinds.{Kind, kind_of, has_length_byte, fast_length}
use Rattle.document.specs.Kinds.Kind.{fast, standard, unserved}
use Rattle.codes_rows.specs.Numbering.{number_of}

abbrev kind_number : Kind → ℕ
kind_number unserved = 0
kind_number fast = 1
kind_number standard = 2

abbrev length_number : ℕ → ℕ
length_number c = cond (has_length_byte c) 7 (fast_length c)

abbrev ex_number : Bool → ℕ
ex_number ex = cond ex 1 0

unfoldable pub entry_of : ℕ → ℕ
entry_of c =
    8192 * kind_number (kind_of c)
    + 1024 * length_number c
    + 512 * ex_number (service_of c).ex
    + 64 * (service_of c).size
    + number_of (service_of c).operation
