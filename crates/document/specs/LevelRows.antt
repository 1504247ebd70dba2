-- The first set after a start (2026-02): "fires a rising trigger when its value is at or above the threshold, and a falling one
-- when at or below".
use Rattle.std.specs.Prelude.{Bool, true, false, List, [], ◌∷◌, ◌++◌, ℕ}
use Prim.Native.String.{String}
use Rattle.document.specs.Hex.{hex}
use Rattle.document.specs.Plan.{Trigger, trigger_in}
use Rattle.document.specs.Trigger.{trigger_value, is_beyond}

-- the trigger's fields as a setup has them, from its size on; its bytes at the first set; whether it fires
pub record Level : Type 0 where
  pub trigger : Trigger
  pub this : List ℕ
  pub fires : Bool

abbrev level : String → String → String → Bool → Level
level mode trigger this fires =
    record { trigger = trigger_in false (hex mode ++ hex "0100 0000 0000 0000" ++ hex trigger); this = hex this; fires = fires }

abbrev rising : String → String → Bool → Level
rising trigger this fires = level "01" trigger this fires

abbrev falling : String → String → Bool → Level
falling trigger this fires = level "02" trigger this fires

abbrev pub fires_first : Level → Bool
fires_first l = is_beyond l.trigger (trigger_value l.trigger l.this)

unfoldable pub levels : List Level
levels =
    rising "01 00 80000000" "81" true
    ∷ rising "01 00 80000000" "80" true
    ∷ rising "01 00 80000000" "7F" false
    ∷ falling "01 00 80000000" "81" false
    ∷ falling "01 00 80000000" "80" true
    ∷ falling "01 00 80000000" "7F" true
    -- "Sign 1 reads both as two's complement of the trigger size, sign 0 as unsigned.": 0x8000 is the lowest number, or above 0x7000
    ∷ rising "02 00 00700000" "0080" true
    ∷ rising "02 01 00700000" "0080" false
    ∷ falling "02 00 00700000" "0080" false
    ∷ falling "02 01 00700000" "0080" true
    -- 0x8000 as the threshold
    ∷ rising "02 00 00800000" "FF7F" false
    ∷ rising "02 01 00800000" "FF7F" true
    ∷ rising "02 01 00800000" "0080" true
    ∷ falling "02 00 00800000" "FF7F" true
    ∷ falling "02 01 00800000" "FF7F" false
    ∷ falling "02 01 00800000" "0080" true
    ∷ rising "04 01 00000000" "FFFFFFFF" false
    ∷ rising "04 00 00000000" "FFFFFFFF" true
    -- mode 0 has no trigger, whatever its fields hold
    ∷ level "00" "01 00 80000000" "80" false
    ∷ []
