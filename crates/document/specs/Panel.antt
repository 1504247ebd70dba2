-- Request 2026-06, the front panel: it prepares the recorder before the log arrives, and starts it. The line knows nothing of it.
use Rattle.std.specs.Prelude.{Bool, false, cond, List, ◌∷◌, ℕ, ltb, length}
use Rattle.document.specs.Numbers.{most_data, message_too_long, taken, state_refused}
use Rattle.document.specs.Gate.{Gate, Outcome}
use Rattle.document.specs.Refusals.{Refusal, when, recorder_set_up_lines, recorder_lines}
use Rattle.document.specs.Commands.{unless, prepare, start}

-- ---- it prepares

-- "gets the same statuses, in 01's order", "above 64 bytes 0x83"
abbrev pub prepare_lines : Gate → List ℕ → List Refusal
prepare_lines g body = when message_too_long (ltb most_data (length body)) ∷ recorder_set_up_lines g false body

-- "The panel gives 0x09's data part"
unfoldable pub panel_prepares : Gate → List ℕ → Outcome
panel_prepares g body = unless g (prepare_lines g body) (prepare g false body)

-- ---- and starts, as 0xC1 does

unfoldable pub panel_starts : Gate → Outcome
panel_starts g = unless g (recorder_lines g) (start g)

-- ---- both calls know 1
abbrev pub panel_refusal : Bool → ℕ
panel_refusal sound = cond sound taken state_refused
