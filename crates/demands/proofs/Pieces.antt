-- A piece of something that the gate has, lent and handed back: as it was; with a state stored in it; or whole.
use mathlib.Core.Path.{◌≡◌, refl, sym, ap, ◌∙◌}
use mathlib.Core.List.{List, [], ◌∷◌, ◌++◌}
use Prim.Native.Nat.{ℕ, zero, suc, ◌≤◌}
use native.Mathlib.Nat.{zero-add}
use native.Mathlib.Omega.{arith}
use lib.ListN.{length, get_or, take, drop}
use lib.Seq.{sets, sets-eq, take-length, take-append_seam}
use Rattle.demands.specs.Pieces.{Piece, lends, handed_back}

-- ---- over numbers and lists, so that an induction goes through

back : (l behind : List ℕ) (size : ℕ) → take (length l) (take size (l ++ behind) ++ drop size l) ≡ l
back [] behind size = refl
back (x ∷ l) behind zero = ap (λ (k : List ℕ). x ∷ k) (take-length l)
back (x ∷ l) behind (suc size) = ap (λ (k : List ℕ). x ∷ k) (back l behind size)

front_back : (vs l behind : List ℕ) (size : ℕ) → length vs ≤ length l → length vs ≤ length (take size (l ++ behind))
    → take (length l) ((vs ++ drop (length vs) (take size (l ++ behind))) ++ drop size l) ≡ vs ++ drop (length vs) l
front_back [] l behind size fits lent = back l behind size
front_back (v ∷ vs) [] behind size fits lent = let z : ⊥ = omega (arith, fits) in absurd z
front_back (v ∷ vs) (x ∷ l) behind zero fits lent = let z : ⊥ = omega (arith, lent) in absurd z
front_back (v ∷ vs) (x ∷ l) behind (suc size) fits lent = ap (λ (k : List ℕ). v ∷ k) (front_back vs l behind size (omega (arith, fits)) (omega (arith, lent)))

all_lent : (l behind : List ℕ) (size : ℕ) → length (take size (l ++ behind)) ≡ length l → take size (l ++ behind) ≡ l
all_lent [] [] zero same = refl
all_lent [] [] (suc size) same = refl
all_lent [] (x ∷ behind) zero same = refl
all_lent [] (x ∷ behind) (suc size) same = let z : ⊥ = omega (arith, same) in absurd z
all_lent (x ∷ l) behind zero same = let z : ⊥ = omega (arith, same) in absurd z
all_lent (x ∷ l) behind (suc size) same = ap (λ (k : List ℕ). x ∷ k) (all_lent l behind size (omega (arith, same)))

front_same : (vs l behind : List ℕ) (size : ℕ) → take (length vs) l ≡ vs → length vs ≤ length (take size (l ++ behind))
    → vs ++ drop (length vs) (take size (l ++ behind)) ≡ take size (l ++ behind)
front_same [] l behind size front lent = refl
front_same (v ∷ vs) [] behind size front lent = let z : ◌≡◌ {A = ℕ} 0 (suc (length vs)) = ap length front in absurd (omega (arith, z))
front_same (v ∷ vs) (x ∷ l) behind zero front lent = let z : ⊥ = omega (arith, lent) in absurd z
front_same (v ∷ vs) (x ∷ l) behind (suc size) front lent =
    let first : x ≡ v = ap (λ (k : List ℕ). get_or k 0 0) front in
    let rest : take (length vs) l ≡ vs = ap (drop 1) front in
    λ j. sym first j ∷ front_same vs l behind size rest (omega (arith, lent)) j

-- ---- of a piece

module _ (l : List ℕ) (p : Piece) where
  pub lent_back : handed_back l p (lends l p) ≡ l
  lent_back = back l p.behind p.size

  -- what is stored at its front is stored at the front of the whole
  pub stored_back : (vs : List ℕ) → length vs ≤ length l → length vs ≤ length (lends l p) → handed_back l p (sets (lends l p) 0 vs) ≡ sets l 0 vs
  stored_back vs fits lent =
      ap (λ (k : List ℕ). take (length l) (k ++ drop p.size l)) (sets-eq vs (lends l p) 0 (omega (arith, lent)) ∙ ap (λ (n : ℕ). vs ++ drop n (lends l p)) (zero-add (length vs)))
      ∙ front_back vs l p.behind p.size fits lent
      ∙ ap (λ (n : ℕ). vs ++ drop n l) (sym (zero-add (length vs)))
      ∙ sym (sets-eq vs l 0 (omega (arith, fits)))

  -- what stands at the front of the whole stands there
  pub front_lent : (vs : List ℕ) → take (length vs) l ≡ vs → length vs ≤ length (lends l p) → sets (lends l p) 0 vs ≡ lends l p
  front_lent vs front lent =
      sets-eq vs (lends l p) 0 (omega (arith, lent))
      ∙ ap (λ (n : ℕ). vs ++ drop n (lends l p)) (zero-add (length vs))
      ∙ front_same vs l p.behind p.size front lent

  module _ (whole : length (lends l p) ≡ length l) where
    pub wholly_lent : lends l p ≡ l
    wholly_lent = all_lent l p.behind p.size whole

    pub wholly_back : (y : List ℕ) → length y ≡ length l → handed_back l p y ≡ y
    wholly_back y same = ap (λ (n : ℕ). take n (y ++ drop p.size l)) (sym same) ∙ take-append_seam y (drop p.size l)
