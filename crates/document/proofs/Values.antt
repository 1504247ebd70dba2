-- Numbers and their bytes: each is the other's way back.
use mathlib.Core.Path.{◌≡◌, refl, ap}
use mathlib.Core.List.{List, [], ◌∷◌}
use Prim.Native.Nat.{ℕ, zero, suc, ◌+◌, ◌*◌, ◌/◌, ◌%◌, ◌^◌, ◌<◌}
use native.Mathlib.Nat.{pow-suc}
use native.Mathlib.Omega.{arith}
use lib.ListN.{length, get_or}
use Rattle.document.specs.Values.{number, little_endian}

-- a number is kept in the bytes it was read from
pub bytes_of_number : (bs : List ℕ) → ((i : ℕ) → get_or bs i 0 < 256) → little_endian (length bs) (number bs) ≡ bs
bytes_of_number [] small = refl
bytes_of_number (b ∷ bs) small =
    let first : (b + 256 * number bs) % 256 ≡ b = omega (arith, small 0) in
    let rest : (b + 256 * number bs) / 256 ≡ number bs = omega (arith, small 0) in
    rw (first, rest) (ap (λ (l : List ℕ). b ∷ l) (bytes_of_number bs (λ i. small (suc i))))

-- a number that fits its width is read back from its bytes
pub number_back : (n x : ℕ) → x < 256 ^ n → number (little_endian n x) ≡ x
number_back zero x h = omega arith
number_back (suc n) x h =
    let small : x / 256 < 256 ^ n = omega (arith, pow-suc 256 n) in
    omega (arith, number_back n (x / 256) small)
