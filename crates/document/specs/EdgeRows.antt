-- The trigger's edges: "the value at the previous set was below the threshold, this one is at or above it"; "previous above,
-- this one at or below".
use Rattle.std.specs.Prelude.{Bool, true, false, List, [], ◌∷◌, ◌++◌, ℕ, ℤ, pos, negsuc}
use Prim.Native.String.{String}
use Rattle.document.specs.Hex.{hex}
use Rattle.document.specs.Values.{twos_complement}
use Rattle.document.specs.Plan.{Trigger, trigger_in}
use Rattle.document.specs.Trigger.{trigger_value, fires}

-- the trigger's fields as a setup has them, from its size on; its bytes at two sets; whether it fires
pub record Edge : Type 0 where
  pub trigger : Trigger
  pub before : List ℕ
  pub this : List ℕ
  pub fires : Bool

abbrev edge : String → String → String → String → Bool → Edge
edge mode trigger before this fires =
    record { trigger = trigger_in false (hex mode ++ hex "0100 0000 0000 0000" ++ hex trigger); before = hex before; this = hex this; fires = fires }

abbrev rising : String → String → String → Bool → Edge
rising trigger before this fires = edge "01" trigger before this fires

abbrev falling : String → String → String → Bool → Edge
falling trigger before this fires = edge "02" trigger before this fires

abbrev pub fires_at : Edge → Bool
fires_at e = fires e.trigger (trigger_value e.trigger e.before) (trigger_value e.trigger e.this)

unfoldable pub edges : List Edge
edges =
    rising "01 00 80000000" "7F" "80" true
    ∷ rising "01 00 80000000" "7F" "81" true
    ∷ rising "01 00 80000000" "7F" "7F" false
    ∷ rising "01 00 80000000" "80" "81" false
    ∷ rising "01 00 80000000" "81" "7F" false
    ∷ falling "01 00 80000000" "81" "80" true
    ∷ falling "01 00 80000000" "81" "7F" true
    ∷ falling "01 00 80000000" "81" "81" false
    ∷ falling "01 00 80000000" "80" "7F" false
    ∷ falling "01 00 80000000" "7F" "81" false
    -- "Sign 1 reads both as two's complement of the trigger size, sign 0 as unsigned.": from -1 to 0, and back
    ∷ rising "01 01 00000000" "FF" "00" true
    ∷ rising "01 00 00000000" "FF" "00" false
    ∷ falling "01 01 FF000000" "00" "FF" true
    ∷ falling "01 00 FF000000" "00" "FF" false
    -- the lowest and the highest number of each size
    ∷ falling "01 01 80000000" "7F" "80" true
    ∷ rising "01 01 7F000000" "80" "7F" true
    ∷ rising "02 01 00000000" "FFFF" "0000" true
    ∷ rising "02 01 00000000" "FF00" "0000" false
    ∷ falling "02 01 00800000" "FF7F" "0080" true
    ∷ rising "02 00 00800000" "FF7F" "0080" true
    ∷ rising "04 01 00000000" "FFFFFFFF" "00000000" true
    ∷ falling "04 01 00000080" "FFFFFF7F" "00000080" true
    ∷ rising "04 00 00000080" "FFFFFF7F" "00000080" true
    ∷ rising "04 01 00000080" "FFFFFF7F" "00000080" false
    -- lowest byte first
    ∷ rising "02 00 00010000" "FF00" "0001" true
    ∷ rising "04 00 00000100" "FFFF0000" "00000100" true
    -- "only the first 'trigger size' bytes count", of the threshold as of the variable
    ∷ rising "01 00 80FFFFFF" "7FFF" "8000" true
    ∷ rising "01 00 80FFFFFF" "7F00" "7FFF" false
    ∷ rising "02 00 0001FFFF" "FF00FF" "000100" true
    -- mode 0 has no trigger, whatever its fields hold
    ∷ edge "00" "01 00 80000000" "7F" "80" false
    ∷ edge "00" "01 00 80000000" "81" "80" false
    ∷ []

-- "two's complement": 0x7F, 0x80 and 0xFF in one byte, then 0x80 and the last number in two and in four
abbrev pub complements : List ℤ
complements =
    twos_complement 1 0x7F
    ∷ twos_complement 1 0x80
    ∷ twos_complement 1 0xFF
    ∷ twos_complement 2 0x80
    ∷ twos_complement 2 0xFFFF
    ∷ twos_complement 4 0x80
    ∷ twos_complement 4 0xFFFFFFFF
    ∷ []

-- -128 is `negsuc 127`, and -1 `negsuc 0`
abbrev pub complements_written : List ℤ
complements_written = pos 127 ∷ negsuc 127 ∷ negsuc 0 ∷ pos 128 ∷ negsuc 0 ∷ pos 128 ∷ negsuc 0 ∷ []
