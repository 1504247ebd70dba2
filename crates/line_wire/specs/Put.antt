-- Bytes put into a lent buffer: doubled there, and added to the sum as they are.
use Rattle.std.specs.Prelude.{◌≡◌, List, [], ◌∷◌, ℕ, ◌+◌, ◌%◌, length}
use Rattle.std.proofs.lemmas.List.Edits.{sets}
use Rattle.document.specs.Doubling.{stuffed}
use Rattle.document.specs.Sum.{total, sum_byte_of}
use Rattle.line_wire.specs.declared.doubling.Progress.{Progress}

-- how far a writer is once it has put these bytes
abbrev pub progressed : Progress → List ℕ → Progress
progressed p bytes = record { at = p.at + length (stuffed bytes); sum = (p.sum + total bytes) % 256 }

-- behind a start byte and the first literal
abbrev pub front : ℕ → Progress
front first = record { at = 2; sum = first }

-- "neither changes others": the bytes from the writer's place on, and no other
pub record Put (p : Progress) (bytes before : List ℕ) (r : Progress) (after : List ℕ) : Type 0 where
  pub progress : r ≡ progressed p bytes
  pub buffer : after ≡ sets before p.at (stuffed bytes)

-- the sum byte, and where the message or answer ends
pub record Ended (p : Progress) (before : List ℕ) (r : ℕ) (after : List ℕ) : Type 0 where
  pub end : r ≡ p.at + length (stuffed (sum_byte_of (p.sum ∷ []) ∷ []))
  pub buffer : after ≡ sets before p.at (stuffed (sum_byte_of (p.sum ∷ []) ∷ []))
