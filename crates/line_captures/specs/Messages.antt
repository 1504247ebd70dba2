-- What a start opens, as the engine reads it: literals up to the next start, counted and summed.
use Rattle.std.specs.Prelude.{◌≡◌, cond, List, [], ◌∷◌, map, ℕ, suc, ◌+◌, ◌-◌, ◌%◌, ◌≤◌, eqb, ltb, length, take, drop, get_or}
use Rattle.std.specs.declared.option.Option.{Option}
use Rattle.std.specs.declared.option.Option.TheVariants.{None, Some}
use Rattle.document.specs.Numbers.{most_data}
use Rattle.document.specs.Sum.{total}
use Rattle.document.specs.Pairing.{Placed, paired, until_start, opened_at}
use Rattle.document.specs.Message.{Message, whole_message}
use Rattle.document_captures.specs.Captures.{whole_and_right, whole_with_wrong_sum, too_long_with_right_sum, Entry, entry_of}
use Rattle.line_captures.specs.declared.messages.Span.{Span}
use Rattle.line_captures.specs.declared.messages.Step.{Step}
use Rattle.line_captures.specs.declared.messages.Found.{Found}
use Rattle.line_captures.specs.declared.messages.Class.{Class}
use Rattle.line_captures.specs.declared.messages.Class.TheVariants.{WholeAndRight, WholeWithWrongSum, TooLongWithRightSum}

-- the literals from a place on, up to the next start
abbrev pub literals_from : List ℕ → ℕ → List ℕ
literals_from bytes at = until_start (paired (drop at bytes))

-- the messages that starts from a place on open, with their places
unfoldable pub heard_from : List ℕ → ℕ → List (Placed Message)
heard_from bytes at = opened_at whole_message at (paired (drop at bytes))

-- from one place to the other no start is met
pub record Passed (bytes : List ℕ) (from behind : ℕ) : Type 0 where
  pub heard : heard_from bytes from ≡ heard_from bytes behind
  pub forward : from ≤ behind
  pub inside : behind ≤ length bytes

pub record Spanned (bytes : List ℕ) (from n sum : ℕ) (r : Span) : Type 0 where
  pub missing : r.missing ≡ n - length (literals_from bytes from)
  pub added : r.sum ≡ (sum + total (take n (literals_from bytes from))) % 256
  pub passed : Passed bytes from r.behind

abbrev pub class_number : Class → ℕ
class_number WholeAndRight = whole_and_right
class_number WholeWithWrongSum = whole_with_wrong_sum
class_number TooLongWithRightSum = too_long_with_right_sum

-- the class of a whole message of this length, whose literals add up to this sum
abbrev pub class_of : ℕ → ℕ → Class
class_of sum n = cond (eqb sum 0) (cond (ltb most_data n) TooLongWithRightSum WholeAndRight) WholeWithWrongSum

-- the message, where no literal of it is missing
abbrev pub found_in : ℕ → ℕ → ℕ → ℕ → Option Found
found_in command missing sum n = cond (eqb missing 0) (Some (record { command = command; class = class_of sum n })) None

-- the entry of a message that was found, whose start byte stands at a place
abbrev pub placed : ℕ → Found → Entry
placed place f = record { place = place; command = f.command; class = class_number f.class }

-- the entry of what a step found, for a message that began at a place
abbrev pub entries_in : ℕ → Option Found → List Entry
entries_in place None = []
entries_in place (Some f) = placed place f ∷ []

abbrev pub entries_of : ℕ → Step → List Entry
entries_of place s = entries_in place s.found

-- messages that began at a place, as entries
abbrev pub entries_at : ℕ → List Message → List Entry
entries_at place ms = map (λ (m : Message). entry_of (record { place = place; thing = m })) ms

-- data and a sum byte behind what adds up to `sum`; length and command are looked at where a message is found alone
pub record Counted (bytes : List ℕ) (from command n sum : ℕ) (r : Step) : Type 0 where
  pub found : r.found ≡ found_in command (suc n - length (literals_from bytes from)) ((sum + total (take (suc n) (literals_from bytes from))) % 256) n
  pub passed : Passed bytes from r.behind

-- the message whose command stands at this place, wherever its start byte is
pub record Opened (bytes : List ℕ) (at : ℕ) (r : Step) : Type 0 where
  pub found : (place : ℕ) → entries_at place (whole_message (get_or bytes at 0 ∷ literals_from bytes (at + 1))) ≡ entries_of place r
  pub passed : Passed bytes (at + 1) r.behind
