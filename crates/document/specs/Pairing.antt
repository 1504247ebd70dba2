-- Pairing: what the bytes since reset say, read from the left.
use Rattle.std.specs.Prelude.{cond, List, [], ◌∷◌, ◌++◌, map, ℕ, ◌+◌, eqb}

pub data Token : Type 0 where
  start : Token
  literal : ℕ → Token

-- "0x2B followed by 0x2B is one literal 0x2B. 0x2B followed by another byte is a start, and that other byte is a
-- literal. A last 0x2B without a follower waits. All other bytes are literals."
abbrev pub paired : List ℕ → List Token
paired [] = []
paired (b ∷ []) = cond (eqb b 0x2B) [] (literal b ∷ [])
paired (b ∷ (c ∷ cs)) =
    cond (eqb b 0x2B)
    (cond (eqb c 0x2B) (literal 0x2B ∷ paired cs) (start ∷ literal c ∷ paired cs))
    (literal b ∷ paired (c ∷ cs))

-- what a start opens ends with the next start: "A start drops any unfinished message"
abbrev pub until_start : List Token → List ℕ
until_start [] = []
until_start (start ∷ ts) = []
until_start (literal l ∷ ts) = l ∷ until_start ts

-- what every start opens, where `whole` says what its literals make; "Literals outside a message are dropped."
abbrev pub opened : {A : Type 0} → (List ℕ → List A) → List Token → List A
opened whole [] = []
opened whole (start ∷ ts) = whole (until_start ts) ++ opened whole ts
opened whole (literal l ∷ ts) = opened whole ts

-- ---- where each start byte stands, counted from 0

pub record Placed (A : Type 0) : Type 0 where
  pub place : ℕ
  pub thing : A

-- how many bytes of the line a token took: "0x2B followed by 0x2B is one literal 0x2B"
abbrev pub width : Token → ℕ
width start = 1
width (literal l) = cond (eqb l 0x2B) 2 1

-- the same as `opened`, of tokens that begin at a place
abbrev pub opened_at : {A : Type 0} → (List ℕ → List A) → ℕ → List Token → List (Placed A)
opened_at whole place [] = []
opened_at whole place (start ∷ ts) =
    map (λ a. record { place = place; thing = a }) (whole (until_start ts)) ++ opened_at whole (place + width start) ts
opened_at whole place (literal l ∷ ts) = opened_at whole (place + width (literal l)) ts
