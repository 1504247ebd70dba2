-- "a wrong check sum .. gets silence and no change", whatever else the frame says and however long it is; and noise makes it wrong.
use mathlib.Core.Path.{◌≡◌, refl, sym}
use mathlib.Core.Bool.{true, false, or-true}
use mathlib.Core.List.{List, []}
use Prim.Native.Nat.{ℕ, ◌≤◌}
use native.Mathlib.Omega.{arith}
use borrow.Author.Tests.{ltb-true, ltb-false}
use lib.Dec.{ltb}
use lib.ListN.{length}
use Rattle.document.specs.CheckSum.{is_check_sum_right}
use Rattle.document.specs.Frames.{is_silenced}
use Rattle.document.specs.Modbus.{modbus_answer, modbus_memory}
use Rattle.document.proofs.Cases.{split}
use Rattle.modbus_check_sums.specs.Flips.{Sent}
use Rattle.modbus_check_sums.proofs.Noticed.{neighbours_noticed, odd_noticed, two_noticed}
use Rattle.modbus_frames.proofs.Silenced.{too_long}
use Rattle.laws_modbus.specs.Damage.{Damaged}
use Rattle.laws_modbus.specs.Damage.Damaged.{neighbours, two, odd}

module _ (station : ℕ) where
  wrong_silent : (frame : List ℕ) → is_check_sum_right frame ≡ false → is_silenced station frame ≡ true
  unfolding is_silenced
  wrong_silent frame wrong = simp (wrong, or-true)

  module _ (frame memory : List ℕ) where
    silent : is_silenced station frame ≡ true → (modbus_answer station frame memory ≡ []) × (modbus_memory station frame memory ≡ memory)
    unfolding modbus_answer modbus_memory
    silent quiet = (rw quiet refl, rw quiet refl)

    pub wrong_silenced : is_check_sum_right frame ≡ false → (modbus_answer station frame memory ≡ []) × (modbus_memory station frame memory ≡ memory)
    wrong_silenced wrong = silent (wrong_silent frame wrong)

  module _ (sent got : List ℕ) (s : Sent sent got) where
    noticed : length sent ≤ 256 → Damaged sent got → is_check_sum_right got ≡ false
    noticed short (neighbours w k some few are) = neighbours_noticed sent got s w k some few are
    noticed short (two i j h are) = two_noticed sent got s i j h short are
    noticed short (odd are) = odd_noticed sent got s are

    -- what is longer than a frame may be gets silence for that
    noise_silent : Damaged sent got → is_silenced station got ≡ true
    noise_silent damaged =
        split (ltb 256 (length sent))
        (λ long. sym (too_long station got (omega (arith, ltb-true 256 (length sent) long, s.lengths))))
        (λ short. wrong_silent got (noticed (ltb-false 256 (length sent) short) damaged))

    pub noise_silenced : Damaged sent got → (memory : List ℕ) → (modbus_answer station got memory ≡ []) × (modbus_memory station got memory ≡ memory)
    noise_silenced damaged memory = silent got memory (noise_silent damaged)
