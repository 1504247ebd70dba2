-- Worked: two tables of two entries, whose names are "coil", 70 bytes, one outside memory and one without an end.
use mathlib.Core.Path.{◌≡◌, refl}
use mathlib.Core.Bool.{true}
use mathlib.Core.List.{List, [], ◌∷◌, ◌++◌}
use Prim.Native.Nat.{ℕ}
use lib.ListN.{length, replicate}
use Rattle.document.specs.Hex.{hex}
use Rattle.document.specs.Areas.{memory_end}
use Rattle.document.specs.Tables.{tables_in, is_list_good}
use Rattle.document.specs.BaseTypes.{size_of_code}
use Rattle.document.specs.Strings.{before_zero, has_zero}
use Rattle.document.specs.Services.{service_of}
use Rattle.document.specs.Gate.{registered}
use Rattle.document.specs.Refusals.{refusal}
use Rattle.document.specs.Commands.{answered}
use Rattle.laws_names.specs.Names.{Named, names_in}
use Rattle.laws_names.specs.Steps.{asked, names_read}

-- strings at 16, 32 and 64, entries from 8,192 on, and no zero at memory's end
abbrev pub memory : List ℕ
memory =
    replicate 16 1 ++ hex "636F696C 00" ++ replicate 11 1 ++ hex "E1 00" ++ replicate 30 1 ++ replicate 70 0x41
    ++ replicate 8058 0
    ++ hex "1000 2000 1200 0B00 4000 2000 1400 0B00"
    ++ hex "0040 2000 1600 0B00 FF3F 2000 1800 0B00"
    ++ replicate 8159 0
    ++ hex "41"

abbrev pub list : List ℕ
list = hex "0020 1000 1020 1000"

-- each is of two bytes, without a sign, and may be written
abbrev named : List ℕ → ℕ → Named
named name address = record { name = name; type = hex "E1"; address = address; info = 0x0B }

abbrev pub names : List (List Named)
names = (named (hex "636F696C") 0x12 ∷ named (replicate 70 0x41) 0x14 ∷ []) ∷ (named [] 0x16 ∷ named [] 0x18 ∷ []) ∷ []

pub memory_whole : length memory ≡ memory_end
memory_whole = refl

pub list_good : is_list_good memory list ≡ true
unfolding is_list_good size_of_code
list_good = refl

pub names_there : names_in memory (tables_in list) ≡ names
unfolding names_in before_zero has_zero
names_there = refl

pub names_come : names_read (registered (tables_in list) memory) ≡ names
unfolding names_read asked answered refusal service_of before_zero has_zero
names_come = refl
