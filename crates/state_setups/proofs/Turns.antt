-- A turn of storing definitions: one goes over, those behind it are left, and what is still to be read is as it was.
use mathlib.Core.Path.{◌≡◌}
use mathlib.Core.Bool.{Bool, true}
use mathlib.Core.List.{List, ◌∷◌}
use Prim.Native.Nat.{ℕ, suc, ◌+◌, ◌-◌, ◌*◌, ◌<◌}
use native.Mathlib.Nat.{add-zero, suc-mul}
use native.Mathlib.Omega.{arith}
use lib.ListN.{get_or, drop}
use lib.Seq.{sets, drop-drop, get_or-drop}
use Rattle.document.specs.Areas.{bytes_at}
use Rattle.document.specs.Values.{number, little_endian}
use Rattle.document.specs.Variables.{address_width, definition_width, definitions_in}
use Rattle.state_block.specs.Layout.{encoded_definitions}

-- as many as are left at a turn are one and those that are left behind it
pub left_one : (n k w : ℕ) → k < n → (n - k) * w ≡ w + (n - (k + 1)) * w
left_one n k w h =
    let m : n - k ≡ suc (n - (k + 1)) = omega arith in
    rw (m, suc-mul (n - (k + 1)) w) (omega arith)

pub definition_stored : (ex : Bool) (source block : List ℕ) (read write n k width size address : ℕ) → k < n → width ≡ address_width ex
    → size ≡ get_or source read 0 → address ≡ number (bytes_at source (read + 1) width)
    → sets (sets block write (size ∷ little_endian 4 address)) (write + definition_width true) (encoded_definitions (definitions_in ex (n - (k + 1)) (drop (read + (1 + width)) source)))
    ≡ sets block write (encoded_definitions (definitions_in ex (n - k) (drop read source)))
definition_stored ex source block read write n k width size address h wide sized addressed =
    let m : n - k ≡ suc (n - (k + 1)) = omega arith in
    let g : write + 5 ≡ suc (suc (suc (suc (suc write)))) = omega arith in
    rw (sized, addressed, wide, m, g, get_or-drop read source 0 0, add-zero read, drop-drop 1 read source, drop-drop (definition_width ex) read source)
