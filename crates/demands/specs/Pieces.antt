-- What a call is lent of something that the gate has: so many bytes of it, and of what lies behind it. What it was lent then stands in
-- its place again.
use Rattle.std.specs.Prelude.{List, ◌++◌, ℕ, length, take, drop}

pub record Piece : Type 0 where
  pub size : ℕ
  pub behind : List ℕ

abbrev pub lends : List ℕ → Piece → List ℕ
lends l p = take p.size (l ++ p.behind)

-- the whole, when what was lent is back in its place
abbrev pub handed_back : List ℕ → Piece → List ℕ → List ℕ
handed_back l p back = take (length l) (back ++ drop p.size l)
