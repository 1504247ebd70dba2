-- The check sum of what was told stands behind it, and so the answer is whole.
use mathlib.Core.Path.{◌≡◌, sym, ap, ◌∙◌}
use mathlib.Core.List.{List}
use Prim.Native.Nat.{ℕ, ◌+◌, ◌≤◌}
use native.Mathlib.Nat.{zero-add}
use native.Mathlib.Omega.{arith}
use lib.ListN.{length, take, drop, length-append}
use lib.Seq.{sets, sets-eq, take_at}
use Rattle.document.specs.Values.{little_endian}
use Rattle.document.specs.CheckSum.{check_sum, with_check_sum}
use Rattle.memory_ranges.proofs.Copies.{stored_append}
use Rattle.modbus_functions.specs.Put.{Put}

-- what was put stands at the front
pub front_again : (bytes out : List ℕ) → length bytes ≤ length out → take (length bytes) (sets out 0 bytes) ≡ bytes
front_again bytes out h =
    ap (take (length bytes)) (sets-eq bytes out 0 (omega arith))
    ∙ take_at bytes (drop (0 + length bytes) out) (length bytes) (λ i. length bytes)

pub sealed : (bytes out told : List ℕ) (n : ℕ) → Put bytes out n told → n + 2 ≤ length out
    → sets told n (little_endian 2 (check_sum (take n told))) ≡ sets out 0 (with_check_sum bytes)
sealed bytes out told n p h =
    let fits : length bytes ≤ length out = omega (arith, p.length) in
    let sum : List ℕ = little_endian 2 (check_sum bytes) in
    rw (p.buffer, p.length, front_again bytes out fits)
    (ap (λ (k : ℕ). sets (sets out 0 bytes) k sum) (sym (zero-add (length bytes))) ∙ sym (stored_append bytes sum out 0))

pub sealed_length : (bytes : List ℕ) → length bytes + 2 ≡ length (with_check_sum bytes)
sealed_length bytes = sym (length-append bytes (little_endian 2 (check_sum bytes)))
