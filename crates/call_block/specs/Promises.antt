-- What a block promises (2026-05): the result and every lent byte, refused or not.
use Rattle.std.specs.Prelude.{◌≡◌, cond, List, ℕ, eqb}
use Rattle.std.proofs.lemmas.List.Edits.{sets}
use Rattle.document.specs.Numbers.{taken}
use Rattle.state_block.specs.Layout.{encoded}
use Rattle.call_checks.specs.Promises.{byte_number}
use Rattle.call_block.specs.declared.BlockTaken.{BlockTaken as Result}
use Rattle.call_block.specs.Going.{walk}

pub record BlockDone (block bytes memory buffer : List ℕ) (r : Result) (after left told : List ℕ) : Type 0 where
  pub result :
      r
      ≡ cond (eqb (byte_number block memory buffer) taken)
      (record { refusal = taken; taken = (walk block bytes memory buffer).taken; written = (walk block bytes memory buffer).written })
      (record { refusal = byte_number block memory buffer; taken = 0; written = 0 })
  pub state :
      after ≡ cond (eqb (byte_number block memory buffer) taken) (sets block 0 (encoded (walk block bytes memory buffer).next)) block
  pub memory_left :
      left ≡ cond (eqb (byte_number block memory buffer) taken) (walk block bytes memory buffer).memory memory
  pub buffer_told :
      told ≡ cond (eqb (byte_number block memory buffer) taken) (walk block bytes memory buffer).buffer buffer
