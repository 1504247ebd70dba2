-- The receiver is stored, then the run.
use mathlib.Core.Path.{◌≡◌, ◌∙◌}
use Prim.Native.Nat.{◌+◌}
use native.Mathlib.Omega.{arith}
use lib.ListN.{length}
use lib.Seq.{sets}
use Rattle.state_byte.specs.Quiet.{passed_receiver}
use Rattle.state_block.specs.Places.{body_place}
use Rattle.state_block.specs.Layout.{encoded_receiver}
use Rattle.state_block.proofs.Stored.{data_stored}
use Rattle.call_quiet.proofs.keep_run.Goals as goal

pub returns : goal.returns
returns c =
    let a = c.args in
    let next = passed_receiver a.head a.run.now in
    let stored : c.put_receiver.new.block ≡ sets a.state.now 0 (encoded_receiver next) =
    c.put_receiver.ensures ∙ (λ i. sets a.state.now 0 (encoded_receiver (record { waiting = 0; phase = 2; command = a.head.command; length = a.head.length; have = a.head.have + length a.run.now; sum = c.summed-sum.ensures i }))) in
    c.copy_in.ensures
    ∙ (λ i. sets (stored i) (body_place + c.from.ensures i) a.run.now)
    ∙ data_stored a.state.now c.requires.0 (λ i. (c.slice_known-1.given i).fits) next a.head.have a.run.now (omega (arith, c.requires.1))
