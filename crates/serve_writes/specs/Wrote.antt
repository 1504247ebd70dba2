-- A write: the status it answers, no data, and the memory it leaves.
use Rattle.std.specs.Prelude.{◌≡◌, List, [], ℕ}
use Rattle.document.specs.Gate.{Outcome}

pub record Wrote (o : Outcome) (status : ℕ) (after : List ℕ) : Type 0 where
  pub answer : o.answer ≡ record { status = status; body = [] }
  pub memory : after ≡ o.gate.memory
