-- What a byte came to, as the C interface has it: the number of a refusal, and a flag with an answer's status and length.
use Rattle.std.specs.declared.option.Option.{Option}
use Rattle.std.specs.declared.option.Option.TheVariants.{None, Some}
use Rattle.std.specs.declared.result.Result.{Result}
use Rattle.std.specs.declared.result.Result.TheVariants.{Ok, Err}
use Rattle.document.specs.Numbers.{taken}
use Rattle.codes_table.specs.declared.calls.Refusal.{Refusal}
use Rattle.codes_table.specs.Calls.{refusal_number}
use Rattle.call_reader.specs.declared.calls.Answer.{Answer}
use Rattle.call_reader.specs.declared.calls.ReadByte.{ReadByte}
use Rattle.call_reader.specs.Promises.{without}

abbrev pub read_byte_of : Result (Option Answer) Refusal → ReadByte
read_byte_of (Ok None) = without taken
read_byte_of (Ok (Some a)) = record { refusal = taken; whole = 1; status = a.status; length = a.length }
read_byte_of (Err refusal) = without (refusal_number refusal)
