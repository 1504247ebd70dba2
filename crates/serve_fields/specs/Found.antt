-- What the fields of a read or a write say, before anything is asked of the memory.
use Rattle.std.specs.Prelude.{◌≡◌, false, not, ◌&&◌, List, [], ◌∷◌, ℕ, ◌+◌, ◌*◌, ◌≤◌, ◌<◌, length, eqb}
use Rattle.document.specs.Numbers.{done, layout_wrong, size_wrong}
use Rattle.document.specs.Fields.{has_size, size_field, address_field, data_place}
use Rattle.document.specs.Refusals.{Refusal, when, first_of, is_block_wrong, is_block_empty}
use Rattle.document.specs.declared.Service.{Service}
use Rattle.serve_fields.specs.declared.Fields.{Fields}

-- the lines that a read and a write begin with, of n bytes behind the address
abbrev pub own_lines : Service → List ℕ → ℕ → List Refusal
own_lines s body n = when layout_wrong (is_block_wrong s body n) ∷ when size_wrong (is_block_empty s body) ∷ []

-- the same of numbers
abbrev pub own_status : Service → ℕ → ℕ → ℕ → ℕ
own_status s size length given =
    first_of (when layout_wrong (has_size s && not (eqb length given)) ∷ when size_wrong (has_size s && eqb size 0) ∷ [])

-- a command with a size of its own comes with the data that its code gives: its fields, and so many parts of its size
abbrev pub OwnFits : Service → ℕ → List ℕ → Type 0
OwnFits s parts body = has_size s ≡ false → data_place s + parts * s.size ≤ length body

-- fields that their own lines do not refuse, of n bytes behind the address: they lie within the data
pub record AreFields (s : Service) (body : List ℕ) (n : ℕ) (b : Fields) : Type 0 where
  pub unrefused : first_of (own_lines s body n) ≡ done
  pub size : b.size ≡ size_field s body
  pub small : b.size < 256
  pub place : b.place ≡ data_place s
  pub near : b.place ≤ 5
  pub address : b.address ≡ address_field s body
  pub fits : data_place s + n ≤ length body
