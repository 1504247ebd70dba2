-- What a writer came to, as the C interface has it: the number of its refusal beside a length of 0, or how many bytes it wrote.
use Rattle.std.specs.Prelude.{ℕ}
use Rattle.std.specs.declared.result.Result.{Result}
use Rattle.std.specs.declared.result.Result.TheVariants.{Ok, Err}
use Rattle.document.specs.Numbers.{taken}
use Rattle.codes_table.specs.declared.calls.Refusal.{Refusal}
use Rattle.codes_table.specs.Calls.{refusal_number}
use Rattle.line_wire.specs.declared.Written.{Written}

abbrev pub written_of : Result ℕ Refusal → Written
written_of (Ok n) = record { refusal = taken; length = n }
written_of (Err refusal) = record { refusal = refusal_number refusal; length = 0 }
