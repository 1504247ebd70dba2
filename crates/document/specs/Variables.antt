-- Variable definitions: "count, then size and address each".
use Rattle.std.specs.Prelude.{Bool, true, false, cond, ◌&&◌, ◌||◌, List, [], ◌∷◌, ◌++◌, ℕ, zero, suc, ◌+◌, ◌*◌, get_or, drop, eqb, ltb}
use Rattle.document.specs.Areas.{bytes_at}
use Rattle.document.specs.Values.{number}
use Rattle.document.specs.declared.Variable.{Variable}

-- "Addresses take 2 bytes, in EX commands 4."
abbrev pub address_width : Bool → ℕ
address_width ex = cond ex 4 2

-- a size, then an address
abbrev pub definition_width : Bool → ℕ
definition_width ex = 1 + address_width ex

abbrev pub definition_in : Bool → List ℕ → Variable
definition_in ex part = record { size = get_or part 0 0; address = number (bytes_at part 1 (address_width ex)) }

-- "Each definition begins where the one before it ended."
abbrev pub definitions_in : Bool → ℕ → List ℕ → List Variable
definitions_in ex zero part = []
definitions_in ex (suc n) part = definition_in ex part ∷ definitions_in ex n (drop (definition_width ex) part)

-- a count and the definitions behind it
abbrev pub count_in : List ℕ → ℕ
count_in part = get_or part 0 0

abbrev pub variables_in : Bool → List ℕ → List Variable
variables_in ex part = definitions_in ex (count_in part) (drop 1 part)

-- how long a part with this count is
abbrev pub length_given : Bool → List ℕ → ℕ
length_given ex part = 1 + count_in part * definition_width ex

-- "a size of 0; a variable count of 0 or above 8"
abbrev pub any_size_zero : List Variable → Bool
any_size_zero [] = false
any_size_zero (v ∷ vs) = eqb v.size 0 || any_size_zero vs

abbrev pub count_wrong : ℕ → Bool
count_wrong n = eqb n 0 || ltb 8 n

-- whether every variable lies where `may` lets it
abbrev pub all_may : (ℕ → ℕ → Bool) → List Variable → Bool
all_may may [] = true
all_may may (v ∷ vs) = may v.address v.size && all_may may vs

-- "the set size is the sum of the variables' sizes"
abbrev pub set_size : List Variable → ℕ
set_size [] = 0
set_size (v ∷ vs) = v.size + set_size vs

-- "the variables' bytes in that order"
abbrev pub values_of : List ℕ → List Variable → List ℕ
values_of memory [] = []
values_of memory (v ∷ vs) = bytes_at memory v.address v.size ++ values_of memory vs
