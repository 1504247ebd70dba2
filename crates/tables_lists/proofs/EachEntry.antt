-- The entries that are left behind the first k of a table: a bad one makes them bad, behind a good one the rest decides.
use mathlib.Core.Path.{◌≡◌, ap, sym, ◌∙◌}
use mathlib.Core.Bool.{Bool, ◌&&◌}
use mathlib.Core.List.{List}
use Prim.Native.Nat.{ℕ, suc, ◌+◌, ◌-◌, ◌*◌, ◌<◌}
use native.Mathlib.Omega.{arith}
use Rattle.document.specs.Areas.{bytes_at}
use Rattle.document.specs.Tables.{entry_size, is_entry_good, are_entries_good}

pub first : (memory : List ℕ) (address count k : ℕ) (t : Bool) → k < count
    → t ≡ is_entry_good memory (bytes_at memory (address + k * entry_size) entry_size)
    → are_entries_good memory (address + k * entry_size) (count - k)
    ≡ t && are_entries_good memory (address + (k + 1) * entry_size) (count - (k + 1))
first memory address count k t more here =
    let e : count - k ≡ suc (count - (k + 1)) = omega arith in
    let f : address + k * entry_size + entry_size ≡ address + (k + 1) * entry_size = omega arith in
    ap (are_entries_good memory (address + k * entry_size)) e
    ∙ (λ i. sym here i && are_entries_good memory (f i) (count - (k + 1)))
