-- Where a read or a write has its fields.
use Rattle.std.specs.Prelude.{Bool, cond, List, ℕ, ◌+◌, get_or, eqb}
use Rattle.document.specs.Areas.{bytes_at}
use Rattle.document.specs.Values.{number}
use Rattle.document.specs.Variables.{address_width}
use Rattle.document.specs.declared.Service.{Service}

-- "size, address, ..": the data begin with a size
abbrev pub has_size : Service → Bool
has_size s = eqb s.size 0

-- "1, 2, 4 bytes", or the size that the data begin with
abbrev pub size_field : Service → List ℕ → ℕ
size_field s body = cond (has_size s) (get_or body 0 0) s.size

abbrev pub address_place : Service → ℕ
address_place s = cond (has_size s) 1 0

abbrev pub address_field : Service → List ℕ → ℕ
address_field s body = number (bytes_at body (address_place s) (address_width s.ex))

abbrev pub data_place : Service → ℕ
data_place s = address_place s + address_width s.ex

-- "The data after the address is handled as it stands in the message."
abbrev pub data_field : Service → List ℕ → List ℕ
data_field s body = bytes_at body (data_place s) (size_field s body)

abbrev pub mask_field : Service → List ℕ → List ℕ
mask_field s body = bytes_at body (data_place s + size_field s body) (size_field s body)
