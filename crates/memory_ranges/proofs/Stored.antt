-- A store and the bytes around it: what lies before and behind is as it was, what was stored is read back.
use mathlib.Core.Path.{◌≡◌, refl, sym, ap, ◌∙◌}
use mathlib.Core.List.{List, [], ◌∷◌, ◌++◌, append_assoc}
use Prim.Native.Nat.{ℕ, zero, suc, ◌+◌, ◌<◌, ◌≤◌}
use native.Mathlib.Nat.{zero-add, suc-add}
use native.Mathlib.Omega.{arith}
use lib.ListN.{length, get_or, set, take, drop}
use lib.Seq.{sets, sets-eq, drop_at, take-append_seam, take-take, take-nil, drop-set-lt, take-set-le, length-take-le, get_or-take}
use Rattle.document.specs.Areas.{bytes_at}

-- all before a store stays
pub take_sets : (vs m : List ℕ) (a b : ℕ) → b ≤ a → take b (sets m a vs) ≡ take b m
take_sets [] m a b h = refl
take_sets (v ∷ vs) m a b h = take_sets vs (set m a v) (suc a) b (omega arith) ∙ take-set-le b m a v h

-- all behind it stays
pub drop_sets : (vs m : List ℕ) (a b : ℕ) → a + length vs ≤ b → drop b (sets m a vs) ≡ drop b m
drop_sets [] m a b h = refl
drop_sets (v ∷ vs) m a b h = drop_sets vs (set m a v) (suc a) b (omega arith) ∙ drop-set-lt b m a v (omega arith)

-- what was stored is read back
pub bytes_stored : (vs m : List ℕ) (a n : ℕ) → length vs ≡ n → a + n ≤ length m → bytes_at (sets m a vs) a n ≡ vs
bytes_stored vs m a n e h =
    ap (λ (l : List ℕ). bytes_at l a n)
    (sets-eq vs m a (omega arith) ∙ append_assoc (take a m) vs (drop (a + length vs) m))
    ∙ ap (take n) (drop_at (take a m) (vs ++ drop (a + length vs) m) a (length-take-le a m (omega arith)))
    ∙ ap (λ (k : ℕ). take k (vs ++ drop (a + length vs) m)) (sym e)
    ∙ take-append_seam vs (drop (a + length vs) m)

-- a range is the end of a front
bytes_front : (a n : ℕ) (m : List ℕ) → bytes_at m a n ≡ drop a (take (a + n) m)
bytes_front zero n m = rw zero-add
bytes_front (suc a) n [] = rw (take-nil n, take-nil (suc a + n))
bytes_front (suc a) n (b ∷ m) = rw (suc-add a n) (bytes_front a n m)

-- a range below a limit is the same in two memories that agree below it
pub bytes_agree : (m n : List ℕ) (limit a k : ℕ) → take limit m ≡ take limit n → a + k ≤ limit → bytes_at m a k ≡ bytes_at n a k
bytes_agree m n limit a k e h =
    bytes_front a k m
    ∙ ap (drop a) (sym (take-take (a + k) limit m h) ∙ ap (take (a + k)) e ∙ take-take (a + k) limit n h)
    ∙ sym (bytes_front a k n)

-- and so is a byte
pub byte_agree : (m n : List ℕ) (limit i : ℕ) → take limit m ≡ take limit n → i < limit → get_or m i 0 ≡ get_or n i 0
byte_agree m n limit i e h = sym (get_or-take limit m i 0 h) ∙ ap (λ (l : List ℕ). get_or l i 0) e ∙ get_or-take limit n i 0 h

-- a range before or behind a store is as it was
pub bytes_before : (vs m : List ℕ) (a b n : ℕ) → b + n ≤ a → bytes_at (sets m a vs) b n ≡ bytes_at m b n
bytes_before vs m a b n h = bytes_agree (sets m a vs) m a b n (take_sets vs m a a (omega arith)) h

pub bytes_behind : (vs m : List ℕ) (a b n : ℕ) → a + length vs ≤ b → bytes_at (sets m a vs) b n ≡ bytes_at m b n
bytes_behind vs m a b n h = ap (take n) (drop_sets vs m a b h)
