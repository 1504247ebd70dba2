-- "The memory, scope and recorder keep their values": a refusal is an answer and nothing else. What is not refused for its
-- sum or its length is what its service makes of it.
use mathlib.Core.Path.{◌≡◌, refl}
use mathlib.Core.Bool.{true, false}
use mathlib.Core.List.{[]}
use lib.ListN.{length}
use lib.Dec.{eqb, ltb}
use Rattle.document.specs.Numbers.{done}
use Rattle.document.specs.Message.{Message, sum_right}
use Rattle.document.specs.Services.{service_of}
use Rattle.document.specs.Gate.{Gate}
use Rattle.document.specs.Refusals.{refusal}
use Rattle.document.specs.Commands.{served, answered}

pub refused_keeps : (g : Gate) (m : Message) → eqb (refusal g m) done ≡ false → answered g m ≡ record { gate = g; answer = record { status = refusal g m; body = [] } }
unfolding answered
refused_keeps g m refused = rw refused refl

pub served_alike : (g : Gate) (m : Message) → sum_right m ≡ true → ltb 64 (length m.body) ≡ false → answered g m ≡ served g (service_of m.command) m.body
unfolding answered served refusal
served_alike g m right short = rw (right, short) refl
