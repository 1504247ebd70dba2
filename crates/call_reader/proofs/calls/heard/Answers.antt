-- What no refusal stands against is what a byte asks for.
use mathlib.Core.Path.{sym}
use Rattle.call_reader.proofs.Readings.{number_known}
use Rattle.call_reader.proofs.calls.heard.Goals as goal

pub read_on-requires : goal.read_on-requires
read_on-requires c = number_known c.args.reader.now c.args.out.now (sym c.in_ok-read_refusal.ensures)
