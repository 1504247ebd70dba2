-- Lists of bytes stay lists of bytes, whatever is stored from one into another; and n bytes hold a number below 2 to the 8n.
use mathlib.Core.Path.{◌≡◌, subst}
use mathlib.Core.List.{List, [], ◌∷◌, ◌++◌}
use Prim.Native.Nat.{ℕ, zero, suc, ◌*◌, ◌^◌, ◌<◌, ◌≤◌}
use native.Mathlib.Nat.{pow-suc}
use native.Mathlib.Omega.{arith}
use lib.ListN.{length, take, replicate}
use Rattle.document.specs.Areas.{bytes_at}
use Rattle.document.specs.Values.{number}
use Rattle.document.specs.Stores.{masked_bytes}
use Rattle.document.specs.declared.Variable.{Variable}
use Rattle.document.specs.Variables.{values_of}
use Rattle.memory_masks.proofs.Masks.{masked_below}
use Rattle.memory_ranges.proofs.Widths.{bytes_bits, fewer_bytes}
use Rattle.document.specs.Bytes.{AllBytes}
pub use Rattle.document.proofs.Bytes.{all_append, all_set, all_sets, all_take, all_drop, all_range}

pub all_front : (xs ys : List ℕ) → AllBytes (xs ++ ys) → AllBytes xs
all_front [] ys p = tt
all_front (x ∷ xs) ys p = (p.0, all_front xs ys p.1)

pub all_behind : (xs ys : List ℕ) → AllBytes (xs ++ ys) → AllBytes ys
all_behind [] ys p = p
all_behind (x ∷ xs) ys p = all_behind xs ys p.1

pub all_zeros : (n : ℕ) → AllBytes (replicate n 0)
all_zeros zero = tt
all_zeros (suc n) = (omega arith, all_zeros n)

pub all_values : (m : List ℕ) (vs : List Variable) → AllBytes m → AllBytes (values_of m vs)
all_values m [] p = tt
all_values m (v ∷ vs) p =
    all_append (bytes_at m v.address v.size) (values_of m vs) (all_range m v.address v.size p) (all_values m vs p)

pub all_masked : (os vs ms : List ℕ) → AllBytes (masked_bytes os vs ms)
all_masked [] vs ms = tt
all_masked (o ∷ os) [] ms = tt
all_masked (o ∷ os) (v ∷ vs) [] = tt
all_masked (o ∷ os) (v ∷ vs) (m ∷ ms) = (masked_below 8 o v m, all_masked os vs ms)

-- a front of n is no longer than n
pub take_short : (n : ℕ) (l : List ℕ) → length (take n l) ≤ n
take_short zero l = omega arith
take_short (suc n) [] = omega arith
take_short (suc n) (x ∷ l) = omega (arith, take_short n l)

pub number_below_256 : (l : List ℕ) (n : ℕ) → AllBytes l → length l ≤ n → number l < 256 ^ n
number_below_256 [] n p h = fewer_bytes 0 n (omega arith)
number_below_256 (b ∷ l) zero p h = let x : ⊥ = omega arith in absurd x
number_below_256 (b ∷ l) (suc n) p h =
    let more : 256 ^ suc n ≡ 256 ^ n * 256 = pow-suc 256 n in
    omega (arith, number_below_256 l n p.1 (omega arith), p.0, more)

pub number_below : (l : List ℕ) (n : ℕ) → AllBytes l → length l ≤ n → number l < 2 ^ (8 * n)
number_below l n p h = subst (λ (k : ℕ). number l < k) (bytes_bits n) (number_below_256 l n p h)
