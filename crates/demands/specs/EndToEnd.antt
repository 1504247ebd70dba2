-- A command and its answer, from one end of the cable to the other and back.
use Rattle.std.specs.Prelude.{◌≡◌, true, List, [], ◌++◌, ℕ, length, drop}
use Rattle.document.specs.Numbers.{is_error}
use Rattle.document.specs.Answer.{Answer, answer_on_wire}
use Rattle.laws_ends.specs.Exchange.{ReadBack}
use Rattle.demands.specs.Board.{Board}

-- what went over the wire from one board to a later one
abbrev pub sent_since : Board → Board → List ℕ
sent_since start last = drop (length start.answers) last.answers

-- the target sends this answer and nothing else; and a reader of n data, to which these bytes come one by one, gives it back
pub record EndToEnd (n : ℕ) (a : Answer) (start last : Board) : Type 0 where
  pub wire : last.answers ≡ start.answers ++ answer_on_wire a
  pub read : ReadBack n a (sent_since start last)
  -- "A status with its top bit set carries no data.": then the status alone comes back, whatever n is
  pub error : is_error a.status ≡ true → a.body ≡ []
