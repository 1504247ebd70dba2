-- The head, and zeros behind it.
use mathlib.Core.List.{List}
use mathlib.Core.Path.{ap, ◌∙◌}
use Prim.Native.Nat.{ℕ}
use lib.ListN.{replicate}
use lib.Seq.{sets}
use Rattle.call_reader.specs.Layout.{encoded_reader}
use Rattle.call_reader.proofs.head.begin_reader.Goals as goal

pub returns : goal.returns
unfolding encoded_reader
returns c =
    let put-head = c.put_head in
    c.clear.ensures ∙ ap (λ (k : List ℕ). sets k 6 (replicate 64 0)) put-head.ensures
