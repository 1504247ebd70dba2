-- Lines of the text that is read.
use Rattle.std.specs.Prelude.{ℕ, ◌≤◌}
use Rattle.script_lines.specs.declared.input.Input.{Input}
use Rattle.script_lines.specs.declared.input.Line.{Line}
use Rattle.script_lines.specs.declared.input.Line.TheVariants.{Found, Over, Long}

-- a window within the text buffer
pub record Inside (i : Input) (room : ℕ) : Type 0 where
  pub ordered : i.start ≤ i.end
  pub within : i.end ≤ room

-- a line that is there lies within the text buffer
abbrev pub Cut : Line → ℕ → Type 0
Cut (Found start end rest) room = (start ≤ end) × (end ≤ room)
Cut Over room = Unit {0}
Cut Long room = Unit {0}
