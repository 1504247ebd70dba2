-- What a read asks of the memory, and the range that it reads.
use Rattle.std.specs.Prelude.{◌≡◌, not, List, [], ◌∷◌, ℕ, ◌+◌, ◌≤◌, ltb}
use Rattle.document.specs.Numbers.{most_data, done, answer_too_long, range_wrong}
use Rattle.document.specs.Areas.{memory_end, may_be_read}
use Rattle.document.specs.Fields.{size_field, address_field}
use Rattle.document.specs.Refusals.{Refusal, when, first_of, read_lines}
use Rattle.document.specs.declared.Service.{Service}
use Rattle.serve_fields.specs.declared.Fields.{Fields}

-- "the answer's data would exceed 64 bytes"; "an address range not wholly where that command may go"
abbrev pub range_lines : ℕ → ℕ → List Refusal
range_lines address size =
    when answer_too_long (ltb most_data size) ∷ when range_wrong (not (may_be_read address size)) ∷ []

abbrev pub read_status : Fields → ℕ
read_status b = first_of (range_lines b.address b.size)

-- a range that nothing refuses
pub record IsRead (s : Service) (body : List ℕ) (b : Fields) : Type 0 where
  pub unrefused : first_of (read_lines s body) ≡ done
  pub address : b.address ≡ address_field s body
  pub size : b.size ≡ size_field s body
  pub few : b.size ≤ most_data
  pub inside : b.address + b.size ≤ memory_end
