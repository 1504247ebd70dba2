-- Reading definitions: a turn takes the next one, which begins where the one before it ended.
use mathlib.Core.Path.{◌≡◌, refl, ap}
use mathlib.Core.Bool.{Bool, true}
use mathlib.Core.List.{List, ◌∷◌}
use Prim.Native.Nat.{ℕ, zero, suc, ◌+◌, ◌*◌, ◌≤◌}
use native.Mathlib.Nat.{add-zero}
use native.Mathlib.Omega.{arith}
use lib.ListN.{length, get_or, drop}
use lib.Seq.{drop-drop, get_or-drop, sets-eq, take-append_seam}
use borrow.Author.Tests.{le-leb}
use Rattle.document.specs.declared.Variable.{Variable}
use Rattle.document.specs.Areas.{bytes_at}
use Rattle.document.specs.Values.{number}
use Rattle.document.specs.Variables.{address_width, definition_width, definition_in, definitions_in}
use Rattle.std.proofs.Common.{Some}
use Rattle.variables_list.specs.State.{variables_of, no_variables, kept}
use Rattle.variables_definitions.specs.Parts.{is_there, definition_at, place_behind}

module _ (part : List ℕ) (ex : Bool) (at more : ℕ) (room : at + suc more * definition_width ex ≤ length part) where
  there : is_there ex part at ≡ true
  there = le-leb (at + definition_width ex) (length part) (omega (arith, room))

  -- a definition is there
  pub found_there : definition_at ex part at ≡ Some (definition_in ex (drop at part))
  found_there = rw there

  -- the place of the next one is behind it
  pub place_next : place_behind ex part at ≡ at + definition_width ex
  place_next = rw there

  -- it is the first of those that are left
  pub found_next : definitions_in ex (suc more) (drop at part)
      ≡ definition_in ex (drop at part) ∷ definitions_in ex more (drop (place_behind ex part at) part)
  found_next = rw (there, drop-drop (definition_width ex) at part)

-- what the code makes of the bytes at a place is the definition there
pub found_at : (part : List ℕ) (ex : Bool) (at width address : ℕ) → width ≡ address_width ex → is_there ex part at ≡ true
    → address ≡ number (bytes_at part (at + 1) width)
    → Some (record { address = address; size = get_or part at 0 }) ≡ definition_at ex part at
found_at part ex at width address ew is-there ea =
    rw (ea, ew, is-there, get_or-drop at part 0 0, add-zero at, drop-drop 1 at part)

pub definitions_length_lem : (ex : Bool) (n : ℕ) (part : List ℕ) → length (definitions_in ex n part) ≡ n
definitions_length_lem ex zero part = refl
definitions_length_lem ex (suc n) part = ap suc (definitions_length_lem ex n (drop (definition_width ex) part))

-- up to eight definitions are kept as they are
pub kept_all : (vs : List Variable) → length vs ≤ 8 → variables_of (kept vs) ≡ vs
kept_all vs h = rw (sets-eq vs no_variables 0 (omega arith)) (take-append_seam vs (drop (0 + length vs) no_variables))
