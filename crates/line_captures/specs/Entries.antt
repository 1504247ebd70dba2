-- The lent list as it is filled: an entry that fits is stored at its place, and one that does not is left out.
use Rattle.std.specs.Prelude.{cond, List, [], ◌∷◌, ℕ, suc, ◌*◌, ltb}
use Rattle.std.proofs.lemmas.List.Edits.{sets}
use Rattle.document_captures.specs.Captures.{Entry, numbers_of, entry_room}

unfoldable pub put_one : List ℕ → ℕ → Entry → List ℕ
put_one list n e = cond (ltb n (entry_room list)) (sets list (n * 3) (numbers_of e)) list

-- entries from the nth on
abbrev pub put_all : List ℕ → ℕ → List Entry → List ℕ
put_all list n [] = list
put_all list n (e ∷ es) = put_all (put_one list n e) (suc n) es
