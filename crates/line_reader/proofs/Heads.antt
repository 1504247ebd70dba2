-- The bounds of a reader are those of its head.
use mathlib.Core.Path.{◌≡◌, refl}
use mathlib.Core.List.{List}
use Prim.Native.Nat.{ℕ}
use Rattle.line_reader.specs.declared.head.Head.{Head}
use Rattle.line_reader.specs.Reader.{sound}
use Rattle.line_reader.specs.Head.{with_body}

-- the bounds do not look at the data
pub sound_head : (h : Head) (a b : List ℕ) → sound (with_body h a) ≡ sound (with_body h b)
unfolding sound
sound_head h a b = refl
