-- Two ports, one memory (2026-07): what the second port answers to what happens, and what each port found in the bytes that both share.
use Rattle.std.specs.Prelude.{◌≡◌, Bool, true, false, cond, List, [], ◌∷◌, ℕ, ◌-◌, take, drop}
use Rattle.document.specs.Areas.{variables_end, calibration_end, buffer_begin, bytes_at}
use Rattle.document.specs.Message.{Message, finished_by}
use Rattle.document.specs.Gate.{Gate}
use Rattle.document.specs.Happenings.{Happening, Since}
use Rattle.document.specs.Happenings.Happening.{byte, aside}
use Rattle.laws_happenings.specs.Along.{along}
use Rattle.laws_happenings.specs.Asides.{is_service, if_any, row, is_tick, is_frame}

-- ---- what the second port answers, over the memory as it stands at each frame; silence is no answer

abbrev pub modbus_at : Since → Happening → List (List ℕ)
modbus_at s (byte b) = []
modbus_at s (aside a) = if_any ((row a).answer s.gate.memory)

abbrev pub modbus_of : Since → List Happening → List (List ℕ)
modbus_of = along modbus_at

-- ---- "an answer on the service port depends on Modbus traffic only through bytes 0 to 8,191 as commands, ticks and registering found
-- them": Modbus traffic is frames

abbrev pub without_frames : List Happening → List Happening
without_frames [] = []
without_frames (byte b ∷ hs) = byte b ∷ without_frames hs
without_frames (aside a ∷ hs) = cond (is_frame a) (without_frames hs) (aside a ∷ without_frames hs)

abbrev pub finishes : List Message → Bool
finishes [] = false
finishes (m ∷ ms) = true

-- a byte that finishes a command looks at the memory, and a tick does; the panel and the gate's own program do not
abbrev pub looks : List ℕ → Happening → Bool
looks bytes (byte b) = finishes (finished_by bytes b)
looks bytes (aside a) = is_tick a

-- bytes 0 to 8,191 as they were found, one after the other
abbrev pub found_at : Since → Happening → List (List ℕ)
found_at s h = cond (looks s.bytes h) (take variables_end s.gate.memory ∷ []) []

abbrev pub found : Since → List Happening → List (List ℕ)
found = along found_at

-- the same but for bytes 0 to 8,191
pub record SameBeyond (g k : Gate) : Type 0 where
  pub memory : drop variables_end g.memory ≡ drop variables_end k.memory
  pub scope : g.scope ≡ k.scope
  pub recorder : g.recorder ≡ k.recorder
  pub application : g.application ≡ k.application
  pub tables : g.tables ≡ k.tables

-- and so are the bytes that came and the answers
pub record SameService (s t : Since) : Type 0 where
  pub bytes : s.bytes ≡ t.bytes
  pub answers : s.answers ≡ t.answers
  pub gate : SameBeyond s.gate t.gate

-- ---- "a Modbus answer depends on service traffic only through those bytes and the recorder buffer": beside service traffic, with its
-- ticks and the panel's calls, there are frames and what the gate's own program writes

abbrev pub without_service : List Happening → List Happening
without_service [] = []
without_service (byte b ∷ hs) = without_service hs
without_service (aside a ∷ hs) = cond (is_service (row a).side) (without_service hs) (aside a ∷ without_service hs)

pub record Shared : Type 0 where
  pub variables : List ℕ
  pub buffer : List ℕ

abbrev pub shared_in : List ℕ → Shared
shared_in memory = record { variables = take variables_end memory; buffer = drop buffer_begin memory }

-- both as the frames found them
abbrev pub shared_at : Since → Happening → List Shared
shared_at s (byte b) = []
shared_at s (aside a) = cond (is_frame a) (shared_in s.gate.memory ∷ []) []

abbrev pub shared : Since → List Happening → List Shared
shared = along shared_at

-- "8,192 to 12,287 calibration": neither port writes it
abbrev pub calibration_in : List ℕ → List ℕ
calibration_in memory = bytes_at memory variables_end (calibration_end - variables_end)
