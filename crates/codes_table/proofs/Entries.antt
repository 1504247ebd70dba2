-- A table that is its rule, entry by entry: the rule's list is computed once, and it is the table.
use mathlib.Core.Path.{◌≡◌, sym, ap, ◌∙◌}
use mathlib.Core.List.{List, [], ◌∷◌}
use Prim.Native.Nat.{ℕ, zero, suc, ◌+◌, ◌<◌}
use native.Mathlib.Nat.{add-zero, zero-add, add-suc, suc-add}
use native.Mathlib.Omega.{arith}
use lib.ListN.{get_or}

-- the n values of a rule from i on
abbrev pub values_from : {A : Type 0} → (ℕ → A) → ℕ → ℕ → List A
values_from f i zero = []
values_from f i (suc n) = f i ∷ values_from f (suc i) n

entry_from : {A : Type 0} (f : ℕ → A) (d : A) (n i k : ℕ) → k < n → get_or (values_from f i n) k d ≡ f (i + k)
entry_from f d zero i k h = let b : ⊥ = omega arith in absurd b
entry_from f d (suc n) i zero h = ap f (sym (add-zero i))
entry_from f d (suc n) i (suc k) h = entry_from f d n (suc i) k (omega arith) ∙ ap f (suc-add i k ∙ sym (add-suc i k))

pub entry_at : {A : Type 0} (f : ℕ → A) (d : A) (n k : ℕ) → k < n → get_or (values_from f 0 n) k d ≡ f k
entry_at f d n k h = entry_from f d n 0 k h ∙ ap f (zero-add k)

-- two rules with one table agree
pub same_rule : {A : Type 0} (f g : ℕ → A) (d : A) (n k : ℕ) → values_from f 0 n ≡ values_from g 0 n → k < n → f k ≡ g k
same_rule f g d n k e h =
    sym (entry_at f d n k h) ∙ ap (λ (l : List _). get_or l k d) e ∙ entry_at g d n k h
