-- The pairing rule at a place: "0x2B followed by 0x2B is one literal 0x2B. 0x2B followed by another byte is a start, and that other byte is
-- a literal. A last 0x2B without a follower waits. All other bytes are literals."
use Rattle.std.specs.Prelude.{cond, List, ℕ, ◌+◌, eqb, ltb, length, get_or}
use Rattle.line_captures.specs.declared.tokens.Met.{Met}
use Rattle.line_captures.specs.declared.tokens.Met.TheVariants.{Start, Literal, End}

unfoldable pub met_at : List ℕ → ℕ → Met
met_at bytes at =
    cond (ltb at (length bytes))
    (cond (eqb (get_or bytes at 0) 0x2B)
    (cond (ltb (at + 1) (length bytes)) (cond (eqb (get_or bytes (at + 1) 0) 0x2B) (Literal 0x2B (at + 2)) Start) End)
    (Literal (get_or bytes at 0) (at + 1)))
    End
