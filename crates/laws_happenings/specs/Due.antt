-- What can happen: each thing that asks for nothing, and what asks for something when it is there.
use Rattle.std.specs.Prelude.{◌≡◌, true, List, [], ◌∷◌}
use Rattle.document.specs.Happenings.{Happening, Since, after}
use Rattle.document.specs.Happenings.Happening.{byte, aside}
use Rattle.laws_happenings.specs.Asides.{row}

abbrev pub DueAt : Since → Happening → Type 0
DueAt s (byte b) = Unit {0}
DueAt s (aside a) = (row a).due s.gate.application ≡ true

abbrev pub AllDue : Since → List Happening → Type 0
AllDue s [] = Unit {0}
AllDue s (h ∷ hs) = DueAt s h × AllDue (after s h) hs
