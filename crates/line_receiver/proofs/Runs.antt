-- Runs of 0x2B and the pairing: a 0x2B waits behind bytes where their run is odd.
use Prim.Native.Nat.{ℕ, zero, suc, ◌+◌}
use mathlib.Core.Path.{◌≡◌, refl, sym, ◌∙◌, ap}
use mathlib.Core.List.{List, [], ◌∷◌, ◌++◌, foldl, foldl-append}
use mathlib.Core.Bool.{Bool, false}
use native.Mathlib.Omega.{arith}
use native.Mathlib.Nat.{zero-add, add-zero}
use lib.Dec.{eqb}
use lib.ListN.{replicate}
use Rattle.document.proofs.Cases.{split}
use Rattle.line_wire.proofs.Pairing.{waits_behind, waits_after}
use Rattle.line_receiver.specs.Runs.{run_behind, run, odd, odd_run}

odd_behind : (n b : ℕ) → waits_behind (odd n) b ≡ odd (run_behind n b)
odd_behind n b = split (eqb b 0x2B) (λ plus. rw plus refl) (λ other. rw other refl)

odd_after : (bs : List ℕ) (n : ℕ) → foldl waits_behind (odd n) bs ≡ odd (foldl run_behind n bs)
odd_after [] n = refl
odd_after (b ∷ bs) n =
    ap (λ (waiting : Bool). foldl waits_behind waiting bs) (odd_behind n b) ∙ odd_after bs (run_behind n b)

pub waits_odd : (bs : List ℕ) → waits_after bs ≡ odd_run bs
unfolding waits_after odd_run
waits_odd bs = odd_after bs 0

-- ---- `run` counts what its name says: n times 0x2B behind another byte, or from reset on, make a run of n
run_on : (n m : ℕ) → foldl run_behind m (replicate n 0x2B) ≡ n + m
run_on zero m = sym (zero-add m)
run_on (suc n) m = run_on n (suc m) ∙ omega arith

pub run_from_reset : (n : ℕ) → run (replicate n 0x2B) ≡ n
run_from_reset n = run_on n 0 ∙ add-zero n

pub run_behind_lem : (front : List ℕ) (b n : ℕ) → eqb b 0x2B ≡ false → run (front ++ (b ∷ replicate n 0x2B)) ≡ n
run_behind_lem front b n other =
    foldl-append run_behind 0 front (b ∷ replicate n 0x2B)
    ∙ ap (λ (m : ℕ). foldl run_behind m (replicate n 0x2B)) (ended (foldl run_behind 0 front) b other)
    ∙ run_from_reset n
  where
    ended : (m b : ℕ) → eqb b 0x2B ≡ false → run_behind m b ≡ 0
    ended m b other = rw other refl
