-- Which message sends an application command (2026-01), and what every message gets while one is pending.
use Rattle.std.specs.Prelude.{◌≡◌, Bool, true, not, ◌&&◌, [], ◌∷◌, eqb, ltb, length}
use Rattle.document.specs.Numbers.{most_data, done, busy}
use Rattle.document.specs.Message.{Message, sum_right}
use Rattle.document.specs.Gate.{Gate, says}
use Rattle.document.specs.Refusals.{refusal}
use Rattle.document.specs.Commands.{answered}

-- an accepted 0x10
abbrev pub sends : Gate → Message → Bool
sends g m = eqb m.command 0x10 && eqb (refusal g m) done

-- what refuses any message does not refuse this one: 0x82 and 0x83 stand before all that its command refuses
abbrev pub unrefused_so_far : Message → Bool
unrefused_so_far m = sum_right m && not (ltb most_data (length m.body))

-- what every message then gets: a pending command is neither replaced nor lost
pub record WhilePending (g : Gate) : Type 0 where
  pub kept : (m : Message) → (answered g m).gate.application ≡ g.application
  -- "0x10 while one is pending 0x87", behind a wrong sum and a length above 64
  pub sent : (m : Message) → m.command ≡ 0x10 → unrefused_so_far m ≡ true → answered g m ≡ says g busy []
  -- "0xFE until the result is in"
  pub asked : (m : Message) → m.command ≡ 0xC6 → unrefused_so_far m ≡ true → answered g m ≡ says g done (0xFE ∷ [])
