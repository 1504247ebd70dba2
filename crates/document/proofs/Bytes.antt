-- A list is all bytes exactly where each of its numbers is below 256, and stays one whatever bytes are taken from it or stored in it.
use mathlib.Core.List.{List, [], ◌∷◌, ◌++◌}
use Prim.Native.Nat.{ℕ, zero, suc, ◌<◌}
use native.Mathlib.Nat.{zero-lt-suc}
use lib.ListN.{get_or, set, take, drop}
use lib.Seq.{sets}
use Rattle.document.specs.Areas.{bytes_at}
use Rattle.document.specs.Bytes.{AllBytes}

pub each_a_byte : (bs : List ℕ) → AllBytes bs → (i : ℕ) → get_or bs i 0 < 256
each_a_byte [] h i = zero-lt-suc 255
each_a_byte (b ∷ bs) h zero = h.0
each_a_byte (b ∷ bs) h (suc i) = each_a_byte bs h.1 i

pub all_of_bytes : (bs : List ℕ) → ((i : ℕ) → get_or bs i 0 < 256) → AllBytes bs
all_of_bytes [] small = tt
all_of_bytes (b ∷ bs) small = (small 0, all_of_bytes bs (λ i. small (suc i)))

pub all_append : (xs ys : List ℕ) → AllBytes xs → AllBytes ys → AllBytes (xs ++ ys)
all_append [] ys px py = py
all_append (x ∷ xs) ys px py = (px.0, all_append xs ys px.1 py)

pub all_set : (xs : List ℕ) (i b : ℕ) → AllBytes xs → b < 256 → AllBytes (set xs i b)
all_set [] i b p h = tt
all_set (x ∷ xs) zero b p h = (h, p.1)
all_set (x ∷ xs) (suc i) b p h = (p.0, all_set xs i b p.1 h)

pub all_sets : (vs xs : List ℕ) (i : ℕ) → AllBytes xs → AllBytes vs → AllBytes (sets xs i vs)
all_sets [] xs i p q = p
all_sets (v ∷ vs) xs i p q = all_sets vs (set xs i v) (suc i) (all_set xs i v p q.0) q.1

pub all_take : (n : ℕ) (xs : List ℕ) → AllBytes xs → AllBytes (take n xs)
all_take zero xs p = tt
all_take (suc n) [] p = tt
all_take (suc n) (x ∷ xs) p = (p.0, all_take n xs p.1)

pub all_drop : (n : ℕ) (xs : List ℕ) → AllBytes xs → AllBytes (drop n xs)
all_drop zero xs p = p
all_drop (suc n) [] p = tt
all_drop (suc n) (x ∷ xs) p = all_drop n xs p.1

pub all_range : (m : List ℕ) (address size : ℕ) → AllBytes m → AllBytes (bytes_at m address size)
all_range m address size p = all_take size (drop address m) (all_drop address m p)
