-- What each thing that happens gives, one after the other.
use Rattle.std.specs.Prelude.{List, [], ◌∷◌, ◌++◌}
use Rattle.document.specs.Happenings.{Happening, Since, after}

abbrev pub along : {A : Type 0} → (Since → Happening → List A) → Since → List Happening → List A
along gives s [] = []
along gives s (h ∷ hs) = gives s h ++ along gives (after s h) hs
