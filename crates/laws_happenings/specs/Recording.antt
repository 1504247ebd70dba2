-- The recorder among what happens to a gate: what a message, a tick and a write are to it, from one accepted start to the next.
use Rattle.std.specs.Prelude.{◌≡◌, true, false, cond, List, [], ◌∷◌, ℕ, ◌+◌, drop}
use Rattle.document.specs.Areas.{buffer_begin}
use Rattle.document.specs.Message.{Message, finished_by}
use Rattle.document.specs.Gate.{Gate}
use Rattle.document.specs.Commands.{answered}
use Rattle.document.specs.Asides.{Aside, beside}
use Rattle.document.specs.Happenings.{Happening, Since, after}
use Rattle.document.specs.Happenings.Happening.{byte, aside}
use Rattle.recorder_history.specs.History.{Event}
use Rattle.recorder_history.specs.History.Event.{tick as ticks, others, stop}
use Rattle.document_outcomes.specs.Starts.{is_start, is_stop}
use Rattle.laws_happenings.specs.Along.{along}
use Rattle.laws_happenings.specs.Asides.{is_anew, row, is_tick, is_own}

-- every message but a stop leaves the recorder, and may write memory
abbrev pub events_of : Gate → List Message → List Event
events_of g [] = []
events_of g (m ∷ ms) = cond (is_stop g m) (stop ∷ []) (others (answered g m).gate.memory ∷ [])

-- beside the line there are ticks, and what may write memory
abbrev pub events_beside : Gate → Aside → List Event
events_beside g a = cond (is_tick a) (ticks ∷ []) (cond (row a).stores (others (beside g a).memory ∷ []) [])

abbrev pub events_at : Since → Happening → List Event
events_at s (byte b) = events_of s.gate (finished_by s.bytes b)
events_at s (aside a) = events_beside s.gate a

abbrev pub events : Since → List Happening → List Event
events = along events_at

-- how many ticks there are among what happens
abbrev pub ticks_of : List Happening → ℕ
ticks_of [] = 0
ticks_of (byte b ∷ hs) = ticks_of hs
ticks_of (aside a ∷ hs) = cond (is_tick a) 1 0 + ticks_of hs

-- no message starts the recorder anew
abbrev pub NoStart : Gate → List Message → Type 0
NoStart g [] = Unit {0}
NoStart g (m ∷ ms) = is_start g m ≡ false

-- nothing beside the line sets the recorder up or starts it anew: "01's sentence on reading round the buffer speaks again from the
-- next start"
abbrev pub NothingNew : Gate → Aside → Type 0
NothingNew g a = is_anew (row a).recorder g ≡ false

abbrev pub Unstarted : Since → Happening → Type 0
Unstarted s (byte b) = NoStart s.gate (finished_by s.bytes b)
Unstarted s (aside a) = NothingNew s.gate a

abbrev pub AllUnstarted : Since → List Happening → Type 0
AllUnstarted s [] = Unit {0}
AllUnstarted s (h ∷ hs) = Unstarted s h × AllUnstarted (after s h) hs

-- "So long as nobody else writes the buffer": commands and frames cannot, and the gate's own program does not
abbrev pub LeavesBuffer : Gate → Aside → Type 0
LeavesBuffer g a = is_own a ≡ true → drop buffer_begin (beside g a).memory ≡ drop buffer_begin g.memory

abbrev pub Undisturbed : Since → Happening → Type 0
Undisturbed s (byte b) = NoStart s.gate (finished_by s.bytes b)
Undisturbed s (aside a) = NothingNew s.gate a × LeavesBuffer s.gate a

abbrev pub AllUndisturbed : Since → List Happening → Type 0
AllUndisturbed s [] = Unit {0}
AllUndisturbed s (h ∷ hs) = Undisturbed s h × AllUndisturbed (after s h) hs
