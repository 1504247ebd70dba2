-- Bytes passed over in a run: where it ends, and the block behind it.
use Rattle.std.specs.Prelude.{◌≡◌, List, ℕ, ◌+◌, drop}
use Rattle.std.proofs.lemmas.List.Edits.{sets}
use Rattle.line_receiver.specs.declared.Receiver.{Receiver}
use Rattle.state_parts.specs.State.{Target}
use Rattle.state_byte.specs.Quiet.{passed_receiver, passed_over, passed_by}
use Rattle.state_block.specs.Layout.{decoded, encoded}

-- a run of data behind this receiver, which is the target's own
abbrev pub kept_run : Target → Receiver → List ℕ → Target
kept_run t head run =
    record { receiver = passed_receiver head run; body = sets t.body head.have run; instruments = t.instruments }

pub record Passed (block bytes : List ℕ) (from next : ℕ) (after : List ℕ) : Type 0 where
  pub place : next ≡ from + passed_over (decoded block) (drop from bytes)
  pub state : after ≡ sets block 0 (encoded (passed_by (decoded block) (drop from bytes)))
