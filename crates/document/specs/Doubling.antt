-- Doubling: how a 0x2B that is no start goes over the wire.
use Rattle.std.specs.Prelude.{cond, List, [], ◌∷◌, ℕ, eqb}

-- "Stuffed means: every 0x2B in length, data and sum byte is doubled."
abbrev pub stuffed : List ℕ → List ℕ
stuffed [] = []
stuffed (b ∷ bs) = cond (eqb b 0x2B) (0x2B ∷ 0x2B ∷ stuffed bs) (b ∷ stuffed bs)
