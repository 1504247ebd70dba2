-- Numbers of two and four bytes: what the code computes is what the definitions say, and what is read can be kept again.
use mathlib.Core.Path.{◌≡◌, sym, ap, ◌∙◌}
use mathlib.Core.List.{List}
use Prim.Native.Nat.{ℕ, suc, ◌+◌, ◌*◌, ◌<◌, ◌≤◌}
use native.Mathlib.Omega.{arith}
use lib.ListN.{length, get_or, drop, length-take, get_or-eq_default}
use lib.Seq.{drop-cons, get_or-drop, get_or-take}
use lib.Dec.{ltb}
use borrow.Author.Tests.{ltb-true, ltb-false}
use Rattle.document.specs.Areas.{bytes_at}
use Rattle.document.specs.Values.{number, little_endian}
use Rattle.document.proofs.Cases.{split}
use Rattle.document.proofs.Values.{bytes_of_number}
use Rattle.bytes_fields.proofs.Ranges.{bytes_length}

module _ (l : List ℕ) where
  -- the bytes of a number, one by one
  number_cons : (at next n : ℕ) → at < length l → next ≡ suc at → number (bytes_at l at (suc n)) ≡ get_or l at 0 + 256 * number (bytes_at l next n)
  number_cons at next n h e = rw (e, drop-cons l at 0 h)

  pub number_two : (at : ℕ) → at + 2 ≤ length l → number (bytes_at l at 2) ≡ get_or l at 0 + 256 * get_or l (at + 1) 0
  number_two at h = omega (arith, number_cons at (at + 1) 1 (omega arith) (omega arith), number_cons (at + 1) (at + 2) 0 (omega arith) (omega arith))

  pub number_four : (at : ℕ) → at + 4 ≤ length l
      → number (bytes_at l at 4) ≡ get_or l at 0 + 256 * get_or l (at + 1) 0 + 65536 * get_or l (at + 2) 0 + 16777216 * get_or l (at + 3) 0
  number_four at h =
      let a = number_cons at (at + 1) 3 (omega arith) (omega arith) in
      let b = number_cons (at + 1) (at + 2) 2 (omega arith) (omega arith) in
      let c = number_cons (at + 2) (at + 3) 1 (omega arith) (omega arith) in
      let d = number_cons (at + 3) (at + 4) 0 (omega arith) (omega arith) in
      omega arith

  module _ (small : (i : ℕ) → get_or l i 0 < 256) where
    pub small_part : (at n i : ℕ) → get_or (bytes_at l at n) i 0 < 256
    small_part at n i =
        split (ltb i n)
        (λ inside. rw (get_or-take n (drop at l) i 0 (ltb-true i n inside), get_or-drop at l i 0) (small (at + i)))
        (λ behind.
        let none : get_or (bytes_at l at n) i 0 ≡ 0 = get_or-eq_default (bytes_at l at n) 0 {n = i} (simp length-take (omega (arith, ltb-false i n behind))) in
        omega arith)

    -- a number is kept in the bytes that it was read from
    pub number_kept : (at n : ℕ) → at + n ≤ length l → little_endian n (number (bytes_at l at n)) ≡ bytes_at l at n
    number_kept at n h =
        ap (λ (k : ℕ). little_endian k (number (bytes_at l at n))) (sym (bytes_length l at n h))
        ∙ bytes_of_number (bytes_at l at n) (small_part at n)
