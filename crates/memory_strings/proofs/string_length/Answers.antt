-- The bytes that are searched are those from the address to memory's end.
use mathlib.Core.Path.{◌≡◌, ap, ◌∙◌}
use mathlib.Core.List.{List}
use Prim.Native.Nat.{ℕ}
use native.Mathlib.Omega.{arith}
use lib.ListN.{length, drop, length-drop}
use Rattle.std.specs.List.{between, position}
use Rattle.std.specs.Option.{unwrap_or}
use Rattle.std.proofs.Common.{Option}
use Rattle.std.proofs.lemmas.Slice.{between_to_end}
use Rattle.document.specs.Strings.{before_zero}
use Rattle.memory_strings.proofs.Zeros.{within, is_zero, first_or_all}
use Rattle.memory_strings.proofs.string_length.Goals as goal

pub returns : goal.returns
returns c =
    let memory = c.args.memory.now in
    let at = c.args.at in
    let part : List ℕ = between at (length memory) memory in
    let e : c.unwrap_or.result ≡ before_zero (drop at memory) =
    c.unwrap_or.ensures
    ∙ ap (λ (r : Option ℕ). unwrap_or r (length part)) c.first_zero.ensures
    ∙ ap (λ (l : List ℕ). unwrap_or (position is_zero l) (length l)) (between_to_end memory at (length memory) (omega arith))
    ∙ first_or_all (drop at memory) in
    (e, omega (arith, within (drop at memory), length-drop at memory))
