-- "Every one of the 256 command values has a kind": 16 to a line, f for fast, s for standard and . for not served.
use Rattle.std.specs.Prelude.{cond, List, ℕ, suc, eqb}
use mathlib.Core.List.List.{[] as none, ◌∷◌ as ◌then◌}
use Prim.Native.Char.{code}
use Prim.Native.String.{String, [], ◌∷◌, ◌++◌}
use Rattle.document.specs.Hex.{hex}
use Rattle.document.specs.Services.{service_of}
use Rattle.document.specs.Kinds.{Kind, kind_of}
use Rattle.document.specs.Kinds.Kind.{fast, standard, unserved}
use Rattle.document.specs.CallRows.{Line, line, below}

abbrev pub kind_rows : String
kind_rows =
    ".ssssss.ssss...."
    ++ "ss.............."
    ++ "................"
    ++ "................"
    ++ "................"
    ++ "................"
    ++ "................"
    ++ "................"
    ++ "................"
    ++ "................"
    ++ "................"
    ++ "................"
    ++ "fffffff.ff......"
    ++ "fff.f..........."
    ++ "fffffff........."
    ++ "ff.............."

abbrev written : ℕ → Kind
written c = cond (eqb c 102) fast (cond (eqb c 115) standard unserved)

-- the kinds that a text has, and those that the definition gives from a command on
abbrev pub kinds_in : String → List Kind
kinds_in [] = none
kinds_in (k ∷ s) = written (code k) then kinds_in s

abbrev pub kinds_from : ℕ → String → List Kind
kinds_from c [] = none
kinds_from c (k ∷ s) = kind_of c then kinds_from (suc c) s

-- ---- of all commands the EX commands, and those of a size of their own with that size

abbrev ex_in : List ℕ → List ℕ
ex_in none = none
ex_in (c then cs) = cond (service_of c).ex (c then ex_in cs) (ex_in cs)

abbrev sizes_in : List ℕ → List ℕ
sizes_in none = none
sizes_in (c then cs) = cond (eqb (service_of c).size 0) (sizes_in cs) (c then ((service_of c).size then sizes_in cs))

unfoldable pub service_rows : List Line
service_rows =
    line (ex_in (below 256)) (hex "04 05 06 0A 0B C9 E0 E1 E2 E6")
    then (line (sizes_in (below 256)) (hex "D001 D102 D204 E001 E102 E204 E301 E402 E501 F004 F102") then none)
