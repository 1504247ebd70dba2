-- What registering promises: the number and every lent byte, refused or not. What the block held does not matter.
use Rattle.std.specs.Prelude.{◌≡◌, cond, List, ℕ, eqb, leb, length}
use Rattle.std.proofs.lemmas.List.Edits.{sets}
use Rattle.document.specs.Numbers.{taken, state_refused}
use Rattle.document.specs.Tables.{register_refusal}
use Rattle.tables_state.specs.State.{registered_list}
use Rattle.state_parts.specs.Bounds.{fresh_with}
use Rattle.state_block.specs.Places.{state_length}
use Rattle.state_block.specs.Layout.{encoded}

-- 1 for a block that is too short
abbrev pub register_number : List ℕ → List ℕ → List ℕ → ℕ
register_number block memory list = cond (leb state_length (length block)) (register_refusal memory list) state_refused

pub record RegisterDone (block memory list : List ℕ) (r : ℕ) (after : List ℕ) : Type 0 where
  pub number : r ≡ register_number block memory list
  pub state :
      after ≡ cond (eqb (register_number block memory list) taken) (sets block 0 (encoded (fresh_with (registered_list list)))) block
