-- Application commands (2026-01) among what happens to a gate: which are sent, which are handed out, and which one waits.
use Rattle.std.specs.Prelude.{◌≡◌, true, cond, List, [], ◌∷◌, ℕ}
use Rattle.document.specs.Message.{Message, finished_by}
use Rattle.document.specs.Application.{is_pending}
use Rattle.document.specs.Gate.{Gate}
use Rattle.document.specs.Happenings.{Happening, Since, after}
use Rattle.document.specs.Happenings.Happening.{byte, aside}
use Rattle.document_outcomes.specs.Sending.{sends}
use Rattle.laws_happenings.specs.Along.{along}
use Rattle.laws_happenings.specs.Asides.{waiting_in, handed_by, NoResultBy, row}

-- ---- sent over the line

-- its data, as they stood in its message
abbrev pub sent_by : Gate → List Message → List (List ℕ)
sent_by g [] = []
sent_by g (m ∷ ms) = cond (sends g m) (m.body ∷ []) []

abbrev pub sent_at : Since → Happening → List (List ℕ)
sent_at s (byte b) = sent_by s.gate (finished_by s.bytes b)
sent_at s (aside a) = []

abbrev pub sent_of : Since → List Happening → List (List ℕ)
sent_of = along sent_at

-- ---- handed out to the gate's own program

abbrev pub waiting_at : Since → List (List ℕ)
waiting_at s = waiting_in s.gate.application

abbrev pub handed_at : Since → Happening → List (List ℕ)
handed_at s (byte b) = []
handed_at s (aside a) = handed_by (row a).command s.gate.application

abbrev pub handed_out : Since → List Happening → List (List ℕ)
handed_out = along handed_at

-- ---- pending until its result is reported

abbrev pub Pending : Since → Type 0
Pending s = is_pending s.gate.application ≡ true

abbrev pub Unreported : Since → Happening → Type 0
Unreported s (byte b) = Unit {0}
Unreported s (aside a) = NoResultBy (row a).command s.gate.application

abbrev pub AllUnreported : Since → List Happening → Type 0
AllUnreported s [] = Unit {0}
AllUnreported s (h ∷ hs) = Unreported s h × AllUnreported (after s h) hs
