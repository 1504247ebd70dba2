-- Where the parts of a setup's data stand in the block.
use mathlib.Core.Path.{◌≡◌, sym, ap, ◌∙◌}
use mathlib.Core.Bool.{Bool}
use mathlib.Core.List.{List}
use Prim.Native.Nat.{ℕ, ◌+◌, ◌-◌, ◌≤◌}
use native.Mathlib.Omega.{arith}
use lib.ListN.{length, take, drop, length-take, length-drop}
use lib.Seq.{take-take, drop-drop}
use Rattle.document.specs.Plan.{head_width, variables_part}
use Rattle.memory_ranges.proofs.Stored.{bytes_agree}
use Rattle.std.proofs.lemmas.List.{take_all}
use Rattle.document.specs.Areas.{bytes_at}
use Rattle.state_block.specs.Layout.{data_to}
use Rattle.state_block.specs.Places.{body_place, scope_place}

module _ (block : List ℕ) (to : ℕ) where
  pub data_short : length (data_to block to) ≤ to - body_place
  data_short = rw length-take (omega arith)

  -- the data are the front of what stands in the block from their place on
  pub data_front : take (to - body_place) (drop body_place block) ≡ take (to - body_place) (data_to block to)
  data_front = sym (take-take (to - body_place) (to - body_place) (drop body_place block) (omega arith))

  -- and so are those behind a recorder's head, in any block that is the same in front of the scope
  pub part_front : (ex : Bool) (after : List ℕ) (from : ℕ) → take scope_place after ≡ take scope_place block → to ≤ scope_place → from ≡ body_place + head_width ex → from ≤ to
      → take (to - from) (drop from after) ≡ take (to - from) (variables_part ex (data_to block to))
  part_front ex after from same most place least =
      bytes_agree after block scope_place from (to - from) same (omega arith)
      ∙ ap (λ (k : ℕ). take (to - from) (drop k block)) place
      ∙ ap (take (to - from)) (sym (drop-drop (head_width ex) body_place block))
      ∙ bytes_agree (drop body_place block) (data_to block to) (to - body_place) (head_width ex) (to - from) data_front (omega arith)

  -- the data, and those behind a recorder's head, read where the block is cut behind them
  pub data_part : (front : List ℕ) → front ≡ take scope_place block → body_place ≤ to → to ≤ scope_place
      → bytes_at front body_place (to - body_place) ≡ data_to block to
  data_part front cut least most =
      bytes_agree front block scope_place body_place (to - body_place) (ap (take scope_place) cut ∙ take-take scope_place scope_place block (omega arith)) (omega arith)

  pub behind_head : (ex : Bool) (after front : List ℕ) (from cut : ℕ) → front ≡ take cut after → scope_place ≤ cut → take scope_place after ≡ take scope_place block
      → to ≤ scope_place → from ≡ body_place + head_width ex → from ≤ to
      → bytes_at front from (to - from) ≡ variables_part ex (data_to block to)
  behind_head ex after front from cut e behind same most place least =
      part_front ex front from (ap (take scope_place) e ∙ take-take scope_place cut after behind ∙ same) most place least
      ∙ take_all (to - from) (variables_part ex (data_to block to)) (rw length-drop (omega (arith, data_short)))
