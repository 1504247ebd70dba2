-- Silence, reason by reason: any of them is enough, in whatever order they are looked at.
use mathlib.Core.Path.{◌≡◌}
use mathlib.Core.Bool.{true, false, not, or-true, or-false}
use mathlib.Core.List.{List}
use Prim.Native.Nat.{ℕ, ◌<◌, ◌≤◌}
use native.Mathlib.Omega.{arith}
use borrow.Author.Tests.{lt-ltb, le-ltb, eq-eqb, ne_eqb, ltb-false, eqb-true, not-false}
use lib.Dec.{eqb, ltb}
use lib.ListN.{length}
use Rattle.document.specs.Bytes.{AllBytes}
use Rattle.document.specs.CheckSum.{check_sum, is_check_sum_right}
use Rattle.document.specs.Frames.{station_in, function_byte, broadcast, is_silenced}
use Rattle.document.proofs.Cases.{none_of}
use Rattle.modbus_check_sums.proofs.Own.{right_leaves_0}

module _ (station : ℕ) (frame : List ℕ) where
  pub too_short : length frame < 4 → true ≡ is_silenced station frame
  unfolding is_silenced
  too_short h = rw (lt-ltb (length frame) 4 h)

  pub too_long : 256 < length frame → true ≡ is_silenced station frame
  unfolding is_silenced
  too_long h = simp (lt-ltb 256 (length frame) h, or-true)

  pub elsewhere : (station_in frame ≡ station → ⊥) → true ≡ is_silenced station frame
  unfolding is_silenced
  elsewhere other = simp (ne_eqb (station_in frame) station other, or-true)

  pub no_function : 127 < function_byte frame → true ≡ is_silenced station frame
  unfolding is_silenced
  no_function h = simp (lt-ltb 127 (function_byte frame) h, or-true)

  -- with none of these, the check sum decides; an own station is none for all
  pub by_check_sum : AllBytes frame → 0 < station → 4 ≤ length frame → length frame ≤ 256 → station_in frame ≡ station → function_byte frame ≤ 127
      → (sum : ℕ) → sum ≡ check_sum frame → not (eqb sum 0) ≡ is_silenced station frame
  unfolding is_silenced
  by_check_sum bytes some low high own h sum es =
      rw (
        le-ltb (length frame) 4 low,
        le-ltb 256 (length frame) high,
        eq-eqb (station_in frame) station own,
        ne_eqb (station_in frame) broadcast (λ all. omega arith),
        le-ltb 127 (function_byte frame) h,
        right_leaves_0 frame bytes (omega arith),
        es,
      )
      (simp or-false)

  -- ---- what is known of a frame that gets an answer

  pub record Heard : Type 0 where
    pub long : 4 ≤ length frame
    pub own : station_in frame ≡ station
    pub function : function_byte frame < 128

  pub heard : is_silenced station frame ≡ false → Heard
  unfolding is_silenced
  heard none =
      let all = none_of _ (ltb 127 (function_byte frame)) none in
      let five = none_of _ (eqb (station_in frame) broadcast) all.0 in
      let four = none_of _ (not (eqb (station_in frame) station)) five.0 in
      let three = none_of _ (not (is_check_sum_right frame)) four.0 in
      let two = none_of (ltb (length frame) 4) (ltb 256 (length frame)) three.0 in
      record {
        long = ltb-false (length frame) 4 two.0;
        own = eqb-true (station_in frame) station (not-false (eqb (station_in frame) station) four.1);
        function = omega (arith, ltb-false 127 (function_byte frame) all.1);
      }
