-- "Staples to try": the table of cases 1 to 13, each from reset, with what goes over the wire and what is left.
use Rattle.std.specs.Prelude.{true, false, List, [], ◌∷◌, ◌++◌, map, ℕ}
use Rattle.document.specs.Answer.{answer_on_wire}
use Rattle.document.specs.Stores.{stored}
use Rattle.document.specs.Run.{Run}
use Rattle.document.specs.Run.Watch.{previous, triggered}
use Rattle.document.specs.Recorder.Recorder.{planned}
use Rattle.document.specs.Scope.Scope.{absent}
use Rattle.document.specs.Application.Application.{none}
use Rattle.document.specs.Gate.{Gate, fresh}
use Rattle.document.specs.Happenings.{Happening, after_all, from_reset}
use Rattle.document.specs.Happenings.Happening.{byte, aside}
use Rattle.document.specs.Asides.Aside.{tick, writes}
use Rattle.document.specs.Rows.{zeros}

-- what a case shows: the answers as they go over the wire, and the gate that is left
pub record Shown : Type 0 where
  pub answers : List (List ℕ)
  pub gate : Gate

pub record Case : Type 0 where
  pub number : ℕ
  pub memory : List ℕ
  pub happenings : List Happening
  pub shows : Shown

abbrev pub shown : Case → Shown
shown c =
    record {
      answers = map answer_on_wire (after_all (from_reset (fresh c.memory)) c.happenings).answers;
      gate = (after_all (from_reset (fresh c.memory)) c.happenings).gate;
    }

-- ---- how the cases are written

-- "Byte 16 is 7F"
abbrev pub holding : ℕ → ℕ → List ℕ
holding address value = stored zeros address (value ∷ [])

-- bytes that come, answers that go, and the memory that is left, with nothing set up
abbrev pub case : ℕ → List ℕ → List ℕ → List (List ℕ) → List ℕ → Case
case n memory bytes answers left =
    record { number = n; memory = memory; happenings = map byte bytes; shows = record { answers = answers; gate = fresh left } }

abbrev case1_answer : List ℕ
case1_answer = 0x2B ∷ 0x00 ∷ 0x03 ∷ 0x00 ∷ 0x01 ∷ 0x01 ∷ 0x00 ∷ 0x40 ∷ 0xBB ∷ []

-- "Rising, size 2, threshold 0x7000, from 0x6000 to 0x8000": the variable stands at byte 16, and is recorded too; with
-- post-trigger 0 the recorder stops when it fires, which the status 0xC3 tells
abbrev pub rising_setup : ℕ → ℕ → List ℕ
rising_setup sign sum_byte =
    0x2B ∷ 0x09 ∷ 0x13
    ∷ 0x01 ∷ 0x04 ∷ 0x00 ∷ 0x00 ∷ 0x00 ∷ 0x00 ∷ 0x00
    ∷ 0x10 ∷ 0x00 ∷ 0x02 ∷ sign ∷ 0x00 ∷ 0x70 ∷ 0x00 ∷ 0x00
    ∷ 0x01 ∷ 0x02 ∷ 0x10 ∷ 0x00
    ∷ sum_byte ∷ []

abbrev rising_run : List ℕ → List Happening
rising_run setup =
    aside (writes 16 (0x00 ∷ 0x60 ∷ []))
    ∷ map byte setup
    ++ (aside tick ∷ aside (writes 16 (0x00 ∷ 0x80 ∷ [])) ∷ aside tick ∷ map byte (0x2B ∷ 0xC3 ∷ 0x3D ∷ []))

abbrev pub rising_gate : ℕ → List ℕ → Run → Gate
rising_gate sign memory run =
    record {
      memory = memory;
      scope = absent;
      recorder =
          planned
          (record {
            samples = 4;
            post_trigger = 0;
            divider = 0;
            trigger = record { mode = 1; address = 16; size = 2; sign = sign; threshold = 0x7000 };
            variables = record { address = 16; size = 2 } ∷ [];
          })
          run;
      application = none;
      tables = [];
    }

-- both values stand in the buffer, the older first
abbrev risen : List ℕ
risen = stored (stored zeros 16 (0x00 ∷ 0x80 ∷ [])) 12288 (0x00 ∷ 0x60 ∷ 0x00 ∷ 0x80 ∷ [])

-- ---- the cases

unfoldable pub staples : List Case
staples =
    case 1 zeros (0x2B ∷ 0xC8 ∷ 0x38 ∷ []) (case1_answer ∷ []) zeros
    ∷ case 2 (holding 16 0x7F) (0x2B ∷ 0xD0 ∷ 0x10 ∷ 0x00 ∷ 0x20 ∷ []) ((0x2B ∷ 0x00 ∷ 0x7F ∷ 0x81 ∷ []) ∷ []) (holding 16 0x7F)
    ∷ case 3 (holding 16 0x2B) (0x2B ∷ 0xD0 ∷ 0x10 ∷ 0x00 ∷ 0x20 ∷ []) ((0x2B ∷ 0x00 ∷ 0x2B ∷ 0x2B ∷ 0xD5 ∷ []) ∷ []) (holding 16 0x2B)
    ∷ case 4 (holding 43 0x7F) (0x2B ∷ 0xD0 ∷ 0x2B ∷ 0x2B ∷ 0x00 ∷ 0x05 ∷ []) ((0x2B ∷ 0x00 ∷ 0x7F ∷ 0x81 ∷ []) ∷ []) (holding 43 0x7F)
    ∷ case 5 (holding 16 0x5A) (0x2B ∷ 0xE5 ∷ 0x10 ∷ 0x00 ∷ 0xF0 ∷ 0x3C ∷ 0xDF ∷ []) ((0x2B ∷ 0x00 ∷ 0x00 ∷ []) ∷ []) (holding 16 0x72)
    ∷ case 6 zeros (0x2B ∷ 0xD0 ∷ 0x10 ∷ 0x00 ∷ 0x21 ∷ []) ((0x2B ∷ 0x82 ∷ 0x7E ∷ []) ∷ []) zeros
    ∷ case 7 zeros (0x2B ∷ 0x01 ∷ 0x03 ∷ 0x41 ∷ 0x10 ∷ 0x00 ∷ 0xAB ∷ []) ((0x2B ∷ 0x84 ∷ 0x7C ∷ []) ∷ []) zeros
    ∷ case 8 (holding 16383 0x7F) (0x2B ∷ 0xD0 ∷ 0xFF ∷ 0x3F ∷ 0xF2 ∷ []) ((0x2B ∷ 0x00 ∷ 0x7F ∷ 0x81 ∷ []) ∷ []) (holding 16383 0x7F)
    ∷ case 8 zeros (0x2B ∷ 0xD0 ∷ 0x00 ∷ 0x40 ∷ 0xF0 ∷ []) ((0x2B ∷ 0x89 ∷ 0x77 ∷ []) ∷ []) zeros
    ∷ case 9 zeros (0x2B ∷ 0xE3 ∷ 0xFF ∷ 0x1F ∷ 0x05 ∷ 0x00 ∷ 0xFA ∷ []) ((0x2B ∷ 0x00 ∷ 0x00 ∷ []) ∷ []) (holding 8191 0x05)
    ∷ case 9 zeros (0x2B ∷ 0xE3 ∷ 0x00 ∷ 0x20 ∷ 0x05 ∷ 0x00 ∷ 0xF8 ∷ []) ((0x2B ∷ 0x89 ∷ 0x77 ∷ []) ∷ []) zeros
    ∷ case 10 zeros (0x2B ∷ 0x2B ∷ 0x2B ∷ 0xC8 ∷ 0x38 ∷ []) (case1_answer ∷ []) zeros
    ∷ case 10 zeros (0x2B ∷ 0x2B ∷ 0xC8 ∷ 0x38 ∷ []) [] zeros
    ∷ case 11 zeros (0x2B ∷ 0xD0 ∷ 0x10 ∷ 0x2B ∷ 0xC8 ∷ 0x38 ∷ []) (case1_answer ∷ []) zeros
    ∷ case 12 zeros (0x2B ∷ 0x7F ∷ 0x00 ∷ 0x81 ∷ []) ((0x2B ∷ 0x81 ∷ 0x7F ∷ []) ∷ []) zeros
    ∷ case 12 zeros (0x2B ∷ 0xC1 ∷ 0x3F ∷ []) ((0x2B ∷ 0x88 ∷ 0x78 ∷ []) ∷ []) zeros
    ∷ record {
      number = 13;
      memory = zeros;
      happenings = rising_run (rising_setup 0 0x4A);
      shows =
          record {
            answers = (0x2B ∷ 0x00 ∷ 0x00 ∷ []) ∷ (0x2B ∷ 0x02 ∷ 0xFE ∷ []) ∷ [];
            gate = rising_gate 0 risen (record { running = false; wait = 0; place = 2; full = false; watch = triggered 0 });
          };
    }
    ∷ record {
      number = 13;
      memory = zeros;
      happenings = rising_run (rising_setup 1 0x49);
      shows =
          record {
            answers = (0x2B ∷ 0x00 ∷ 0x00 ∷ []) ∷ (0x2B ∷ 0x01 ∷ 0xFF ∷ []) ∷ [];
            gate = rising_gate 1 risen (record { running = true; wait = 0; place = 2; full = false; watch = previous 0x8000 });
          };
    }
    ∷ []
