-- "the first that applies in this order": every pair of refusals that can apply together, and each refusal alone.
use Rattle.std.specs.Prelude.{cond, List, [], ◌∷◌, ◌++◌, map, ℕ, replicate, take}
use Prim.Native.String.{String}
use Rattle.document.specs.Hex.{hex}
use Rattle.document.specs.Message.{Message, heard}
use Rattle.document.specs.Refusals.{Refusal, table}
use Rattle.document.specs.Gate.{Gate, fresh}
use Rattle.document.specs.Happenings.{from_reset}
use Rattle.document.specs.Rows.{zeros, Row, hears, asks, framed, wire, after_steps}

-- a message after some steps, and all refusals that apply to it, in the table's order
pub record Faulty : Type 0 where
  pub before : Row
  pub message : List ℕ
  pub faults : List ℕ

-- at reset; and while a recorder runs
abbrev faulty : String → String → Faulty
faulty message faults = record { before = []; message = hex message; faults = hex faults }

abbrev running : String → String → Faulty
running message faults =
    record { before = asks "09 13 00 0400 0000 0000 0000 00 00 00000000 01 01 1000" "00" ∷ []; message = hex message; faults = hex faults }

-- while an application command is pending (2026-01)
abbrev pending : String → String → Faulty
pending message faults = record { before = asks "10 01 01" "00" ∷ []; message = hex message; faults = hex faults }

-- so many bytes of 0x10 behind it
abbrev longer : ℕ → Faulty → Faulty
longer n f = record { before = f.before; message = f.message ++ replicate n 0x10; faults = f.faults }

unfoldable pub faulty_messages : List Faulty
faulty_messages =
    -- alone
    longer 62 (faulty "02 41 3E 1000" "83")
    ∷ faulty "7F 00" "81"
    ∷ faulty "C1" "88"
    ∷ faulty "C4" "88"
    ∷ faulty "C5" "88"
    ∷ running "C4" "87"
    ∷ running "09 13 00 0400 0000 0000 0000 00 00 00000000 01 01 1000" "87"
    ∷ pending "10 01 02" "87"
    ∷ faulty "10 00" "85"
    ∷ faulty "01 02 01 10" "85"
    ∷ faulty "01 03 00 1000" "86"
    ∷ faulty "01 03 41 1000" "84"
    ∷ faulty "D0 0040" "89"
    ∷ faulty "11 01 00" "85"
    ∷ faulty "D4 0040" "89"
    -- 0x83 with others
    ∷ longer 65 (faulty "7F 41" "83 81")
    ∷ longer 66 (running "09 43 00" "83 87 85 86")
    ∷ longer 62 (faulty "02 41 01 1000" "83 85")
    ∷ longer 66 (faulty "08 43 16" "83 86")
    ∷ longer 62 (faulty "01 41 41 1000" "83 85 84")
    ∷ longer 62 (faulty "02 41 3E 0020" "83 89")
    ∷ longer 65 (pending "10 41" "83 87")
    ∷ longer 65 (faulty "11 41" "83 85")
    -- 0x87 with others
    ∷ running "09 13 03 0400 0000 0000 0000 01 00 00000000 01 01 1000" "87 85"
    ∷ running "09 13 00 0000 0000 0000 0000 00 00 00000000 01 01 1000" "87 86"
    ∷ running "09 13 00 0400 0000 0000 0000 00 00 00000000 01 01 0030" "87 89"
    ∷ pending "10 00" "87 85"
    -- 0x85 with others: of a scope, a recorder, a read and a write
    ∷ faulty "08 00" "85 86"
    ∷ faulty "08 05 01 01 0040 00" "85 89"
    ∷ faulty "09 13 03 0000 0000 0000 0000 01 00 00000000 01 01 1000" "85 86"
    ∷ faulty "09 13 03 0400 0000 0000 0000 01 00 00000000 01 01 0030" "85 89"
    ∷ faulty "01 02 00 10" "85 86"
    ∷ faulty "01 04 41 1000 00" "85 84"
    ∷ faulty "01 04 01 0040 00" "85 89"
    ∷ faulty "02 04 00 1000 00" "85 86"
    ∷ faulty "02 03 01 0020" "85 89"
    ∷ faulty "03 04 01 0020 00" "85 89"
    -- 0x86 and 0x84 with 0x89
    ∷ faulty "08 04 01 00 0140" "86 89"
    ∷ faulty "09 13 00 0000 0000 0000 0000 00 00 00000000 01 01 0030" "86 89"
    ∷ faulty "01 03 00 0140" "86 89"
    ∷ faulty "02 03 00 0120" "86 89"
    ∷ faulty "01 03 41 0040" "84 89"
    ∷ []

-- ---- the rows: the first of its faults is the answer, and 0x82 where the sum is wrong besides

abbrev pub with_right_sum : Faulty → Row
with_right_sum f = f.before ++ (hears (wire f.message) (wire (take 1 f.faults) ∷ []) ∷ [])

abbrev pub with_wrong_sum : Faulty → Row
with_wrong_sum f = f.before ++ (hears (framed 1 f.message) (wire (0x82 ∷ []) ∷ []) ∷ [])

abbrev pub pair_rows : List Faulty → List Row
pair_rows fs = map with_right_sum fs ++ map with_wrong_sum fs

-- ---- and the faults are those that apply

abbrev applying : List Refusal → List ℕ
applying [] = []
applying (r ∷ rs) = cond r.applies (r.status ∷ applying rs) (applying rs)

abbrev of_all : Gate → List Message → List ℕ
of_all g [] = []
of_all g (m ∷ ms) = applying (table g m) ++ of_all g ms

abbrev pub faults_of : Faulty → List ℕ
faults_of f = of_all (after_steps (from_reset (fresh zeros)) f.before).gate (heard (wire f.message))
