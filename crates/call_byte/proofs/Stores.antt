-- A state stored over another one: nothing of the first is left.
use mathlib.Core.Path.{◌≡◌, sym, ap, ◌∙◌}
use mathlib.Core.List.{List, ◌++◌}
use Prim.Native.Nat.{ℕ, ◌≤◌}
use native.Mathlib.Nat.{zero-add}
use native.Mathlib.Omega.{arith}
use lib.ListN.{length, drop, length-append, length-drop}
use lib.Seq.{sets, sets-eq, drop-append_seam}
use Rattle.state_parts.specs.State.{Target}
use Rattle.state_parts.specs.Widths.{TargetFits}
use Rattle.state_block.specs.Places.{state_length}
use Rattle.state_block.specs.Layout.{encoded}
use Rattle.state_block.proofs.Back.{encoded_length}

front : (vs l : List ℕ) → length vs ≤ length l → sets l 0 vs ≡ vs ++ drop (length vs) l
front vs l fits = sets-eq vs l 0 (omega (arith, fits)) ∙ ap (λ (n : ℕ). vs ++ drop n l) (zero-add (length vs))

stored_over : (xs ys l : List ℕ) → length xs ≡ length ys → length xs ≤ length l → sets (sets l 0 xs) 0 ys ≡ sets l 0 ys
stored_over xs ys l same fits =
    ap (λ (k : List ℕ). sets k 0 ys) (front xs l fits)
    ∙ front ys (xs ++ drop (length xs) l) (simp (length-append, length-drop) (omega (arith, same, fits)))
    ∙ ap (λ (n : ℕ). ys ++ drop n (xs ++ drop (length xs) l)) (sym same)
    ∙ ap (λ (k : List ℕ). ys ++ k) (drop-append_seam xs (drop (length xs) l))
    ∙ ap (λ (n : ℕ). ys ++ drop n l) same
    ∙ sym (front ys l (omega (arith, same, fits)))

pub target_over : (block : List ℕ) (s t : Target) → state_length ≤ length block → TargetFits s → TargetFits t
    → sets (sets block 0 (encoded s)) 0 (encoded t) ≡ sets block 0 (encoded t)
target_over block s t long f g =
    stored_over (encoded s) (encoded t) block (encoded_length s f ∙ sym (encoded_length t g)) (omega (arith, long, encoded_length s f))
