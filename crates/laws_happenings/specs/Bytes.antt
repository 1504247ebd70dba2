-- The bytes among what happens, and what happens beside them.
use Rattle.std.specs.Prelude.{List, [], ◌∷◌, ◌++◌, ℕ, ◌<◌, get_or}
use Rattle.document.specs.Bytes.{AllBytes}
use Rattle.document.specs.Happenings.{Happening, Since}
use Rattle.document.specs.Happenings.Happening.{byte, aside}
use Rattle.laws_happenings.specs.Asides.{row}

-- a byte more, and nothing else yet
abbrev pub with_byte : Since → ℕ → Since
with_byte s b = record { bytes = s.bytes ++ (b ∷ []); gate = s.gate; answers = s.answers }

-- the bytes that came
abbrev pub bytes_of : List Happening → List ℕ
bytes_of [] = []
bytes_of (byte b ∷ hs) = b ∷ bytes_of hs
bytes_of (aside a ∷ hs) = bytes_of hs

-- all that happened but the bytes
abbrev pub beside_bytes : List Happening → List Happening
beside_bytes [] = []
beside_bytes (byte b ∷ hs) = beside_bytes hs
beside_bytes (aside a ∷ hs) = aside a ∷ beside_bytes hs

-- every one of them is a byte, at each place
abbrev pub Bytes : List ℕ → Type 0
Bytes l = (i : ℕ) → get_or l i 0 < 256

-- and so is what is brought beside the line
abbrev pub IsBytes : Happening → Type 0
IsBytes (byte b) = b < 256
IsBytes (aside a) = AllBytes (row a).brings

abbrev pub AreBytes : List Happening → Type 0
AreBytes [] = Unit {0}
AreBytes (h ∷ hs) = IsBytes h × AreBytes hs
