-- Each field as it was read.
use mathlib.Core.Path.{refl}
use Rattle.call_reader.specs.Layout.{decoded_reader}
use Rattle.call_reader.proofs.head.head_in.Goals as goal

pub returns : goal.returns
unfolding decoded_reader
returns c = refl
