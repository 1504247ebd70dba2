-- What an entry of the table says, and the lengths it is to say.
use Rattle.std.specs.Prelude.{false, cond, ℕ, ◌/◌, ◌%◌, eqb, ltb}
use Rattle.std.specs.declared.option.Option.{Option}
use Rattle.std.specs.declared.option.Option.TheVariants.{None, Some}
use Rattle.document.specs.Kinds.{has_length_byte, fast_length}
use Rattle.document.specs.declared.Operation.TheVariants.{Unserved}
use Rattle.document.specs.declared.Service.{Service}
use Rattle.codes_rows.specs.Numbering.{operation_numbered}

-- "Below 0xC0 the next literal is the length"; at 0xC0 and above, "bits 5 and 4 give the data length"
abbrev pub length_of : ℕ → Option ℕ
length_of c = cond (has_length_byte c) None (Some (fast_length c))

-- ---- what an entry says

abbrev pub length_in : ℕ → Option ℕ
length_in entry = cond (eqb (entry / 1024 % 8) 7) None (Some (entry / 1024 % 8))

-- the kind stands highest, and lowest is the kind that is not served: then nothing else is looked at
abbrev pub service_in : ℕ → Service
service_in entry =
    cond (ltb entry 8192)
    (record { operation = Unserved; ex = false; size = 0 })
    (record { operation = operation_numbered (entry % 64); ex = eqb (entry / 512 % 2) 1; size = entry / 64 % 8 })
