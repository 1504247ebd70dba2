-- What happens to a gate since reset: bytes come over the line, and something happens beside them.
use Rattle.std.specs.Prelude.{List, [], ◌∷◌, ◌++◌, ℕ}
use Rattle.document.specs.Message.{Message, finished_by}
use Rattle.document.specs.Answer.{Answer}
use Rattle.document.specs.Gate.{Gate}
use Rattle.document.specs.Commands.{answered}
use Rattle.document.specs.Asides.{Aside, beside}

pub data Happening : Type 0 where
  byte : ℕ → Happening
  aside : Aside → Happening

-- the bytes since reset, the gate, and the answers so far
pub record Since : Type 0 where
  pub bytes : List ℕ
  pub gate : Gate
  pub answers : List Answer

-- "The answer comes with the sum byte's last wire byte, once."
abbrev pub after_messages : Since → List Message → Since
after_messages s [] = s
after_messages s (m ∷ ms) =
    record {
      bytes = s.bytes;
      gate = (answered s.gate m).gate;
      answers = s.answers ++ ((answered s.gate m).answer ∷ []);
    }

abbrev pub after : Since → Happening → Since
after s (byte b) =
    after_messages
    (record { bytes = s.bytes ++ (b ∷ []); gate = s.gate; answers = s.answers })
    (finished_by s.bytes b)
after s (aside a) = record { bytes = s.bytes; gate = beside s.gate a; answers = s.answers }

abbrev pub after_all : Since → List Happening → Since
after_all s [] = s
after_all s (h ∷ hs) = after_all (after s h) hs

-- reset
abbrev pub from_reset : Gate → Since
from_reset g = record { bytes = []; gate = g; answers = [] }
