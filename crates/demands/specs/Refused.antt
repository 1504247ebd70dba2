-- Demand 1: what a check says, and what a refusal on the wire leaves. Of the calls that a gate makes it is
-- `laws_calls.Calls.CallRefused`, of both ends of the line `laws_ends.Refused`.
use Rattle.std.specs.Prelude.{◌≡◌, true, cond, List, [], ℕ}
use Rattle.document.specs.Numbers.{taken, state_refused, done, is_error}
use Rattle.document.specs.Message.{Message}
use Rattle.document.specs.Gate.{Gate, says}
use Rattle.document.specs.Refusals.{refusal}
use Rattle.document.specs.Commands.{answered}
use Rattle.call_checks.specs.Promises.{block_sound}

-- a check is lent nothing that it could change
pub record CheckRefused (block : List ℕ) (r : ℕ) : Type 0 where
  pub number : r ≡ cond (block_sound block) taken state_refused

-- "a refusal sent on the wire writes that answer's bytes only": the gate stays, and there are no data
pub record WireRefused (g : Gate) (m : Message) : Type 0 where
  pub refused : (refusal g m ≡ done → ⊥) → answered g m ≡ says g (refusal g m) []
  -- an error is said only where the document's table refuses
  pub exactly : is_error (answered g m).answer.status ≡ true → refusal g m ≡ done → ⊥
