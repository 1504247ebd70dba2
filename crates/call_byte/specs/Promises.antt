-- What a byte promises: the result and every lent byte, refused or not. At exit the block holds the encoding of the definition's
-- next state, and bytes behind it keep their values.
use Rattle.std.specs.Prelude.{◌≡◌, cond, List, ℕ, eqb}
use Rattle.std.proofs.lemmas.List.Edits.{sets}
use Rattle.document.specs.Numbers.{taken}
use Rattle.state_block.specs.Layout.{decoded, encoded}
use Rattle.call_checks.specs.Promises.{byte_number}
use Rattle.state_byte.specs.Turn.{Turn, turn}
use Rattle.call_byte.specs.declared.Taken.{Taken}

-- a byte that nothing refuses
pub record Turned (u : Turn) (block : List ℕ) (written : ℕ) (after left told : List ℕ) : Type 0 where
  pub length : written ≡ u.length
  pub state : after ≡ sets block 0 (encoded u.next)
  pub memory_left : left ≡ u.memory
  pub buffer_told : told ≡ u.buffer

pub record ByteTaken (block : List ℕ) (b : ℕ) (memory buffer : List ℕ) (r : Taken) (after left told : List ℕ) : Type 0 where
  pub result :
      r
      ≡ cond (eqb (byte_number block memory buffer) taken)
      (record { refusal = taken; length = (turn (decoded block) b memory buffer).length })
      (record { refusal = byte_number block memory buffer; length = 0 })
  pub state :
      after
      ≡ cond (eqb (byte_number block memory buffer) taken) (sets block 0 (encoded (turn (decoded block) b memory buffer).next)) block
  pub memory_left :
      left ≡ cond (eqb (byte_number block memory buffer) taken) (turn (decoded block) b memory buffer).memory memory
  pub buffer_told :
      told ≡ cond (eqb (byte_number block memory buffer) taken) (turn (decoded block) b memory buffer).buffer buffer
