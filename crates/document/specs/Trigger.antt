-- The trigger: "Rising: the value at the previous set was below the threshold, this one is at or above it. Falling:
-- previous above, this one at or below." The first set after a start has no previous one; 2026-02 says when it fires.
use Rattle.std.specs.Prelude.{Bool, false, cond, ◌&&◌, List, ℕ, ℤ, eqb}
use Rattle.std.specs.Int.Signed.{lt_z, le_z}
use Rattle.document.specs.Areas.{bytes_at}
use Rattle.document.specs.Values.{number, signed_value}
use Rattle.document.specs.Plan.{Trigger}

-- the bytes of the trigger variable as a number
abbrev pub trigger_value : Trigger → List ℕ → ℕ
trigger_value t memory = number (bytes_at memory t.address t.size)

-- "Sign 1 reads both as two's complement of the trigger size, sign 0 as unsigned."
abbrev pub compared : Trigger → ℕ → ℤ
compared t x = signed_value t.sign t.size x

abbrev pub rises : ℤ → ℤ → ℤ → Bool
rises threshold previous this = lt_z previous threshold && le_z threshold this

abbrev pub falls : ℤ → ℤ → ℤ → Bool
falls threshold previous this = lt_z threshold previous && le_z this threshold

-- mode 1 rises, mode 2 falls, mode 0 has no trigger
unfoldable pub fires : Trigger → ℕ → ℕ → Bool
fires t previous this =
    cond (eqb t.mode 1) (rises (compared t t.threshold) (compared t previous) (compared t this))
    (cond (eqb t.mode 2) (falls (compared t t.threshold) (compared t previous) (compared t this)) false)

-- 2026-02: "the first set after a start fires a rising trigger when its value is at or above the threshold, and a falling one
-- when at or below"
unfoldable pub is_beyond : Trigger → ℕ → Bool
is_beyond t this =
    cond (eqb t.mode 1) (le_z (compared t t.threshold) (compared t this))
    (cond (eqb t.mode 2) (le_z (compared t this) (compared t t.threshold)) false)
