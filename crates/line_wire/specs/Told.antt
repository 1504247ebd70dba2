-- An answer that is told: how long it is on the wire, and the lent buffer behind it. Every operation that answers promises this.
use Rattle.std.specs.Prelude.{◌≡◌, List, ℕ, length, set}
use Rattle.std.proofs.lemmas.List.Edits.{sets}
use Rattle.document.specs.Answer.{Answer, answer_on_wire}
use Rattle.line_wire.specs.declared.doubling.Progress.{Progress}
use Rattle.line_wire.specs.Put.{front, Put}

pub record Told (a : Answer) (before : List ℕ) (written : ℕ) (after : List ℕ) : Type 0 where
  pub length : written ≡ length (answer_on_wire a)
  pub buffer : after ≡ sets before 0 (answer_on_wire a)

-- a buffer with the start byte and the first literal in front
abbrev pub fronted : List ℕ → ℕ → List ℕ
fronted before first = set (set before 0 0x2B) 1 first

-- an answer that is being told: its status, and these of its data
abbrev pub Telling : ℕ → List ℕ → List ℕ → Progress → List ℕ → Type 0
Telling status bytes before p after = Put (front status) bytes (fronted before status) p after
