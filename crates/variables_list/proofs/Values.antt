-- The variables' bytes: how many they are.
use mathlib.Core.Path.{◌≡◌, refl}
use mathlib.Core.Bool.{true}
use mathlib.Core.List.{List, [], ◌∷◌}
use Prim.Native.Nat.{ℕ, ◌+◌, ◌≤◌}
use native.Mathlib.Omega.{arith}
use lib.ListN.{length, drop, length-append, length-drop}
use lib.Seq.{length-take-le}
use borrow.Author.Tests.{leb-true}
use Rattle.document.specs.declared.Variable.{Variable}
use Rattle.document.specs.Areas.{bytes_at}
use Rattle.document.specs.Variables.{all_may, set_size, values_of}
use Rattle.document.proofs.Cases.{both}
use Rattle.variables_list.specs.State.{up_to}

pub range_length : (memory : List ℕ) (address size : ℕ) → address + size ≤ length memory → length (bytes_at memory address size) ≡ size
range_length m a s h = length-take-le s (drop a m) (rw length-drop (omega arith))

-- "the set size is the sum of the variables' sizes"
pub values_length : (memory : List ℕ) (limit : ℕ) (vs : List Variable) → all_may (up_to limit) vs ≡ true → limit ≤ length memory
    → length (values_of memory vs) ≡ set_size vs
values_length m limit [] e h = refl
values_length m limit (v ∷ vs) e h =
    let b = both (up_to limit v.address v.size) (all_may (up_to limit) vs) e in
    let i : v.address + v.size ≤ limit = leb-true _ _ b.0 in
    rw (length-append (bytes_at m v.address v.size), range_length m v.address v.size (omega arith), values_length m limit vs b.1 h)
