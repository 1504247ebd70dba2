-- The variables that a setup leaves, how the struct keeps them, and where they end.
use Rattle.std.specs.Prelude.{Bool, List, ℕ, ◌+◌, length, take, replicate, leb}
use Rattle.std.proofs.lemmas.List.Edits.{sets}
use Rattle.document.specs.declared.Variable.{Variable}
use Rattle.variables_list.specs.declared.Variables.{Variables}

-- the definitions in use: those behind the count are not looked at
abbrev pub variables_of : Variables → List Variable
variables_of v = take v.count v.list

abbrev pub no_variables : List Variable
no_variables = replicate 8 (record { address = 0; size = 0 })

-- definitions as they are kept: entries behind the count are zero
abbrev pub kept : List Variable → Variables
kept vs = record { count = length vs; list = sets no_variables 0 vs }

-- a range that ends at or below a limit, of which "may be read" and "may be recorded" are two cases
abbrev pub up_to : ℕ → ℕ → ℕ → Bool
up_to limit address size = leb (address + size) limit
