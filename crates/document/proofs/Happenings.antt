-- What is kept of what happened: every byte since reset and every answer, in their order, whatever the gate makes of them.
use mathlib.Core.Path.{◌≡◌, refl}
use mathlib.Core.List.{List, [], ◌∷◌, ◌++◌}
use Prim.Native.Nat.{ℕ}
use Rattle.document.specs.Message.{Message, finished_by}
use Rattle.document.specs.Asides.{Aside}
use Rattle.document.specs.Happenings.{Since, after_messages, after}
use Rattle.document.specs.Happenings.Happening.{byte, aside}

pub messages_keep_bytes : (s : Since) (ms : List Message) → (after_messages s ms).bytes ≡ s.bytes
messages_keep_bytes s [] = refl
messages_keep_bytes s (m ∷ ms) = refl

pub every_byte_kept : (s : Since) (b : ℕ) → (after s (byte b)).bytes ≡ s.bytes ++ (b ∷ [])
every_byte_kept s b = messages_keep_bytes _ (finished_by s.bytes b)

-- "The line never sees one."
pub aside_unheard : (s : Since) (a : Aside) → ((after s (aside a)).bytes ≡ s.bytes) × ((after s (aside a)).answers ≡ s.answers)
aside_unheard s a = (refl, refl)
