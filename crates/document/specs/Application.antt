-- Request 2026-01, application commands: sent by a technician, collected once by the gate's own program, which later reports a result.
use Rattle.std.specs.Prelude.{Bool, true, false, cond, not, ◌||◌, List, [], ℕ, ltb, length}
use Rattle.std.proofs.lemmas.List.Edits.{sets}
use Rattle.document.specs.Numbers.{most_data, taken, state_refused, room_refused, result_refused}

pub data Application : Type 0 where
  -- "before any command"
  none : Application
  -- accepted, and new to the gate's program: "one code byte and up to 63 argument bytes"
  waiting : List ℕ → Application
  -- collected, and its result is not in
  collected : Application
  -- its result is in
  ended : ℕ → Application

-- from its acceptance until its result is reported, collected or not
abbrev pub is_pending : Application → Bool
is_pending none = false
is_pending (waiting command) = true
is_pending collected = true
is_pending (ended result) = false

-- "0xC6 returns one byte: 0xFF before any command, 0xFE until the result is in, then the result"
abbrev pub result_byte : Application → ℕ
result_byte none = 0xFF
result_byte (waiting command) = 0xFE
result_byte collected = 0xFE
result_byte (ended result) = result

-- ---- the gate's own program collects

-- "collects it once": what is new, code first
abbrev pub new_command : Application → List ℕ
new_command none = []
new_command (waiting command) = command
new_command collected = []
new_command (ended result) = []

abbrev pub after_collect : Application → Application
after_collect none = none
after_collect (waiting command) = collected
after_collect collected = collected
after_collect (ended result) = ended result

-- "into 64 lent bytes (3 when fewer)", whether something is new or not
abbrev pub collect_refusal : Bool → List ℕ → ℕ
collect_refusal sound buffer = cond (not sound) state_refused (cond (ltb (length buffer) most_data) room_refused taken)

-- "Bytes behind the command, or all when nothing is new, keep their values."
abbrev pub collect_buffer : Application → List ℕ → List ℕ
collect_buffer a buffer = sets buffer 0 (new_command a)

-- ---- and reports "a result from 0 to 0xFD"

abbrev pub is_collected : Application → Bool
is_collected none = false
is_collected (waiting command) = false
is_collected collected = true
is_collected (ended result) = false

-- "call number 7 for a result above 0xFD or with no collected command pending"
abbrev pub report_refusal : Bool → Application → ℕ → ℕ
report_refusal sound a result =
    cond (not sound) state_refused (cond (ltb 0xFD result || not (is_collected a)) result_refused taken)

abbrev pub after_report : ℕ → Application → Application
after_report result none = none
after_report result (waiting command) = waiting command
after_report result collected = ended result
after_report result (ended before) = ended before
