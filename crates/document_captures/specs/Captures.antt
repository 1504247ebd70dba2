-- "Reading a captured line" (2026-11): "Support receives captures of the cable."
use Rattle.std.specs.Prelude.{cond, List, [], ◌∷◌, ◌++◌, map, ℕ, ◌/◌, ltb, eqb, length}
use Rattle.std.proofs.lemmas.List.Edits.{sets}
use Rattle.document.specs.Numbers.{most_data, taken, room_refused}
use Rattle.document.specs.Pairing.{Placed}
use Rattle.document.specs.Message.{Message, sum_right, heard_at}

-- ---- "the status class: whole and right, whole with wrong sum, too long with right sum"

abbrev pub whole_and_right : ℕ
whole_and_right = 0

abbrev pub whole_with_wrong_sum : ℕ
whole_with_wrong_sum = 1

abbrev pub too_long_with_right_sum : ℕ
too_long_with_right_sum = 2

-- the sum is looked at first, so a message that is too long and has a wrong sum is whole with wrong sum
abbrev pub class_of : Message → ℕ
class_of m = cond (sum_right m) (cond (ltb most_data (length m.body)) too_long_with_right_sum whole_and_right) whole_with_wrong_sum

-- ---- "For each it gives where the start byte stands, the command and the status class"

pub record Entry : Type 0 where
  pub place : ℕ
  pub command : ℕ
  pub class : ℕ

abbrev pub entry_of : Placed Message → Entry
entry_of p = record { place = p.place; command = p.thing.command; class = class_of p.thing }

-- "takes a whole capture, as bytes since reset, and finds its messages directly from the pairing rule"
unfoldable pub captured : List ℕ → List Entry
captured bytes = map entry_of (heard_at bytes)

-- ---- the lent list: three numbers for each entry, one entry behind another

abbrev pub numbers_of : Entry → List ℕ
numbers_of e = e.place ∷ e.command ∷ e.class ∷ []

abbrev pub in_numbers : List Entry → List ℕ
in_numbers [] = []
in_numbers (e ∷ es) = numbers_of e ++ in_numbers es

-- its room, in entries
abbrev pub entry_room : List ℕ → ℕ
entry_room list = length list / 3

-- "Refusals: 3 when the lent list is too short"
unfoldable pub capture_refusal : List ℕ → List ℕ → ℕ
capture_refusal bytes list = cond (ltb (entry_room list) (length (captured bytes))) room_refused taken

-- how many entries are listed
unfoldable pub capture_count : List ℕ → List ℕ → ℕ
capture_count bytes list = cond (eqb (capture_refusal bytes list) taken) (length (captured bytes)) 0

-- ".. nothing written": refused, the list keeps its numbers, and else those behind the entries do
unfoldable pub capture_list : List ℕ → List ℕ → List ℕ
capture_list bytes list = cond (eqb (capture_refusal bytes list) taken) (sets list 0 (in_numbers (captured bytes))) list
