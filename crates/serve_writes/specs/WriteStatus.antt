-- What a write asks of the gate, of the range that its fields give, and the range that nothing refuses.
use Rattle.std.specs.Prelude.{◌≡◌, not, List, [], ◌∷◌, ℕ, ◌+◌, ◌≤◌}
use Rattle.codes_table.specs.declared.statuses.Status.{Status}
use Rattle.codes_table.specs.Statuses.{status_number}
use Rattle.document.specs.Numbers.{done, range_wrong}
use Rattle.document.specs.Areas.{variables_end}
use Rattle.document.specs.Gate.{Gate}
use Rattle.document.specs.Permission.{may_be_written}
use Rattle.document.specs.Refusals.{Refusal, when, first_of, write_lines}
use Rattle.document.specs.declared.Service.{Service}
use Rattle.serve_fields.specs.declared.Fields.{Fields}
use Rattle.serve_fields.specs.Found.{AreFields}

-- "an address range not wholly where that command may go"
abbrev pub permission_lines : Gate → ℕ → ℕ → List Refusal
permission_lines g address size = when range_wrong (not (may_be_written g address size)) ∷ []

abbrev pub write_status : Gate → Fields → ℕ
write_status g b = first_of (permission_lines g b.address b.size)

-- fields whose range may be written, with n bytes behind the address
pub record IsWritten (s : Service) (body : List ℕ) (n : ℕ) (b : Fields) : Type 0 where
  pub found : AreFields s body n b
  pub unrefused : (g : Gate) → first_of (write_lines g s body n) ≡ done
  pub inside : b.address + b.size ≤ variables_end

abbrev pub IsUnwritten : Service → List ℕ → ℕ → Status → Type 0
IsUnwritten s body n status = (g : Gate) → status_number status ≡ first_of (write_lines g s body n)
