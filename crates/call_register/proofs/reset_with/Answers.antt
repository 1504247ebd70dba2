-- Four stores, each where the one before it ends.
use mathlib.Core.Path.{refl, ap, ◌∙◌}
use mathlib.Core.List.{List}
use Prim.Native.Nat.{ℕ, ◌+◌, ◌-◌, ◌/◌}
use lib.ListN.{length, set, replicate}
use lib.Seq.{sets}
use Rattle.state_block.specs.Places.{tables_place, list_place, state_length}
use Rattle.call_register.proofs.Registered.{reset_stored}
use Rattle.call_register.proofs.reset_with.Goals as goal

pub returns : goal.returns
returns c =
    let block = c.args.state.now in
    let list = c.args.list.now in
    let end : ℕ = list_place + length list in
    c.clear-2.ensures
    ∙ ap (λ (l : List ℕ). sets l end (replicate {A = ℕ} (state_length - end) 0))
    (c.copy_in.ensures
    ∙ ap (λ (l : List ℕ). sets l list_place list) (ap (λ (l : List ℕ). set l tables_place (length list / 4)) c.clear.ensures))
    ∙ reset_stored block list c.requires.1 (length list / 4) end (state_length - end) refl refl refl
