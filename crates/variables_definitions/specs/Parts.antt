-- Reading definitions from a setup's data part.
use Rattle.std.specs.Prelude.{Bool, cond, List, ℕ, ◌+◌, length, drop, eqb, leb, Option, Some, None}
use Rattle.document.specs.declared.Variable.{Variable}
use Rattle.document.specs.Variables.{definition_width, definition_in, length_given}
use Rattle.variables_definitions.specs.declared.reader.Reader.{Reader}

-- a part holds a whole definition at a place
abbrev pub is_there : Bool → List ℕ → ℕ → Bool
is_there ex part at = leb (at + definition_width ex) (length part)

abbrev pub definition_at : Bool → List ℕ → ℕ → Option Variable
definition_at ex part at = cond (is_there ex part at) (Some (definition_in ex (drop at part))) None

-- "Each definition begins where the one before it ended."
abbrev pub place_behind : Bool → List ℕ → ℕ → ℕ
place_behind ex part at = cond (is_there ex part at) (at + definition_width ex) at

abbrev pub moved_behind : Reader → Reader
moved_behind reader =
    record { part = reader.part; at = place_behind reader.ex reader.part.now reader.at; ex = reader.ex }

-- "a data length that is not the one its fields give" is this one's negation
abbrev pub is_whole : Bool → List ℕ → Bool
is_whole ex part = eqb (length part) (length_given ex part)
