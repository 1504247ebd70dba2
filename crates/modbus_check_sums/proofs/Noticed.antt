-- What the check sum always notices: damage within 16 neighbouring bits, any odd number of flipped bits, any two of a frame.
use mathlib.Core.Path.{◌≡◌, sym, ap, ◌∙◌}
use mathlib.Core.Bool.{true, false, false≢true}
use mathlib.Core.List.{List, [], ◌∷◌}
use Prim.Native.Nat.{ℕ, ◌+◌, ◌*◌, ◌^◌, ◌%◌, ◌<◌, ◌≤◌}
use native.Mathlib.Nat.{lt_of_lt_of_le}
use native.Mathlib.Omega.{arith}
use borrow.Author.Tests.{ne_eqb, eqb-true, ltb-true, ltb-false}
use lib.Dec.{ltb}
use lib.ListN.{length}
use lib.Pow.{pow_mono}
use Rattle.document.specs.Bytes.{AllBytes}
use Rattle.document.specs.CheckSum.{shifts, check_sum, is_check_sum_right}
use Rattle.document.proofs.Cases.{split}
use Rattle.modbus_check_sums.specs.Flips.{Sent, flips, bits_set}
use Rattle.modbus_check_sums.proofs.Words.{word_gone}
use Rattle.modbus_check_sums.proofs.Own.{right_leaves_0}
use Rattle.modbus_check_sums.proofs.Damage.{unnoticed, flips_fit, moved_down}
use Rattle.modbus_check_sums.proofs.Oddness.{bits_none, bits_more, shifts_odd}
use Rattle.modbus_check_sums.proofs.TwoFlips.{two_not_gone}

-- a right frame has room for its check sum
right_length : (frame : List ℕ) → AllBytes frame → is_check_sum_right frame ≡ true → 2 ≤ length frame
unfolding check_sum
right_length [] bytes right = absurd (false≢true right)
right_length (b ∷ []) bytes right = omega (arith, bytes.0, eqb-true (b + 256 * 0) 0xFFFF right)
right_length (b ∷ c ∷ rest) bytes right = omega arith

module _ (sent got : List ℕ) (s : Sent sent got) where
  -- what is not shifted out to nothing is noticed
  noticed : (shifts (length sent * 8) (flips sent got) ≡ 0 → ⊥) → is_check_sum_right got ≡ false
  noticed seen =
      let room : 2 ≤ length sent = right_length sent s.sent_bytes s.right in
      let nothing : check_sum sent ≡ 0 = eqb-true (check_sum sent) 0 (sym (right_leaves_0 sent s.sent_bytes room) ∙ s.right) in
      right_leaves_0 got s.got_bytes (omega (arith, s.lengths))
      ∙ ne_eqb (check_sum got) 0
      (λ too. seen (unnoticed sent got s.sent_bytes s.got_bytes s.lengths (nothing ∙ sym too)))

  pub neighbours_noticed : (w k : ℕ) → 0 < w → w < 65536 → flips sent got ≡ w * 2 ^ k → is_check_sum_right got ≡ false
  neighbours_noticed w k some h e =
      noticed
      (λ gone.
      let z : w ≡ 0 = word_gone (length sent * 8) w h (moved_down (length sent * 8) k w (ap (shifts (length sent * 8)) (sym e) ∙ gone)) in
      omega arith)

  pub odd_noticed : bits_set (length sent * 8) (flips sent got) % 2 ≡ 1 → is_check_sum_right got ≡ false
  odd_noticed odd =
      noticed
      (λ gone.
      let n : ℕ = length sent * 8 in
      let f : ℕ = flips sent got in
      let fits : flips sent got < 2 ^ (length sent * 8) = flips_fit sent got s.sent_bytes s.got_bytes s.lengths in
      let wide : flips sent got < 2 ^ (16 + length sent * 8) = lt_of_lt_of_le fits (pow_mono (omega arith)) in
      let size : 16 + length sent * 8 ≡ length sent * 8 + 16 = omega arith in
      let z : ◌≡◌ {A = ℕ} 0 1 =
      sym (ap (λ (x : ℕ). x % 2) (ap (bits_set (16 + n)) gone ∙ bits_none (16 + n)))
      ∙ shifts_odd n n f wide
      ∙ ap (λ (k : ℕ). bits_set k f % 2) size
      ∙ ap (λ (x : ℕ). x % 2) (bits_more n 16 f fits)
      ∙ odd
      in
      omega arith)

  pub two_noticed : (i j : ℕ) → i < j → length sent ≤ 256 → flips sent got ≡ 2 ^ i + 2 ^ j → is_check_sum_right got ≡ false
  two_noticed i j h short e =
      let fits : flips sent got < 2 ^ (length sent * 8) = flips_fit sent got s.sent_bytes s.got_bytes s.lengths in
      let inside : j < length sent * 8 =
      split (ltb j (length sent * 8)) (ltb-true j (length sent * 8))
      (λ beyond. let p : 2 ^ (length sent * 8) ≤ 2 ^ j = pow_mono (ltb-false j (length sent * 8) beyond) in omega arith)
      in
      noticed (λ gone. two_not_gone (length sent * 8) i j h (omega arith) (ap (shifts (length sent * 8)) (sym e) ∙ gone))
