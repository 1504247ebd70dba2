-- What a tick promises: the result and every lent byte, refused or not. At exit the block holds the encoding of the definition's
-- next state, and bytes behind it keep their values.
use Rattle.std.specs.Prelude.{◌≡◌, cond, List, ℕ, eqb}
use Rattle.std.proofs.lemmas.List.Edits.{sets}
use Rattle.document.specs.Numbers.{taken}
use Rattle.document.specs.Recorder.{ticked_memory}
use Rattle.recorder_state.specs.State.{recorder_of}
use Rattle.recorder_taking.specs.Tick.{ticked_state}
use Rattle.state_parts.specs.State.{with_instruments, Target, with_recorder}
use Rattle.state_block.specs.Layout.{decoded, encoded}
use Rattle.call_checks.specs.Promises.{tick_number}

-- the link and the scope know nothing of a tick
abbrev pub ticked_target : Target → List ℕ → Target
ticked_target t memory = with_instruments t (with_recorder t.instruments (ticked_state t.instruments.recorder memory))

pub record TickTaken (block memory : List ℕ) (r : ℕ) (after left : List ℕ) : Type 0 where
  pub result : r ≡ tick_number block memory
  pub state :
      after ≡ cond (eqb (tick_number block memory) taken) (sets block 0 (encoded (ticked_target (decoded block) memory))) block
  pub memory_left :
      left
      ≡ cond (eqb (tick_number block memory) taken) (ticked_memory (recorder_of (decoded block).instruments.recorder) memory) memory
